pub mod Marks
pub mod Rows
pub mod Judgments
mod Orders
mod Marking
mod Concerning
mod OneJudged
mod OneArrived
pub mod Empty
pub mod Members
pub mod Finishable
pub mod OneEntered
pub mod Refolds
mod OneFollowed
pub mod Telling
mod Removed
mod Whole
mod OneMore
pub mod Settled
pub mod Numbering
mod Listed
pub mod TouchedSum
pub mod Changed
pub mod RefoldSum
pub mod PartTicks
pub mod LoopTicks
pub mod EnterTicks
pub mod AddTicks
pub mod TakeTicks
pub mod Concerned
pub mod TakeUp
pub mod InsertTicks
pub mod EnterOne
mod SeenAlone
mod OneSettled
mod SettleTicks
mod Alone
mod Settleable
mod FinishTicks
pub mod Distinct
pub mod LoneTicks
