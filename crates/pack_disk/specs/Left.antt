-- What a crash of a disk in memory leaves of a pack, by a choice.
use Rattle.std.specs.Prelude.{ℕ, ◌+◌, ◌*◌, ◌-◌, ◌/◌, ◌%◌, min, List, ◌++◌, length, take, drop, map, replicate, codes, Bool, true, false, ◌==◌, ◌&&◌, not, if◌then◌else◌, Option, None, Some}
use Rattle.std.specs.List.{range_with_len}
use Rattle.pack_disk.specs.declared.loss.Loss.{Loss}
use Rattle.pack_disk.specs.declared.loss.Loss.TheVariants.{Nothing, Unsynced, Half, AllButFirst, Last, Zeroed, Garbled, Claimed}
use Rattle.pack_disk.specs.PackState.{PackState}
use Rattle.pack_disk.specs.declared.remains.Remains.{Remains}

abbrev pub loss_of : ℕ → Loss
loss_of choice =
    if choice % 8 == 0 then Nothing
    else if choice % 8 == 1 then Unsynced
    else if choice % 8 == 2 then Half
    else if choice % 8 == 3 then AllButFirst
    else if choice % 8 == 4 then Last
    else if choice % 8 == 5 then Zeroed
    else if choice % 8 == 6 then Garbled
    else Claimed

-- whether a pack that was never synced is gone
abbrev pub takes_packs : Loss → Bool
takes_packs Nothing = false
takes_packs Unsynced = true
takes_packs Half = false
takes_packs AllButFirst = false
takes_packs Last = false
takes_packs Zeroed = false
takes_packs Garbled = false
takes_packs Claimed = false

-- how many bytes of a tail stay
abbrev pub kept : Loss → ℕ → ℕ
kept Nothing tail = tail
kept Unsynced tail = 0
kept Half tail = tail / 2
kept AllButFirst tail = min tail 1
kept Last tail = tail - 1
kept Zeroed tail = tail
kept Garbled tail = tail
kept Claimed tail = tail

-- the byte at a place, by the choice
abbrev pub garbage : ℕ → ℕ → ℕ
garbage choice place = ((choice / 8) % 65536 + 1) * (place % 65536 + 1) * 40503 / 256 % 256

abbrev pub garbled : ℕ → ℕ → List ℕ
garbled choice n = map (garbage choice) (range_with_len 0 n)

-- a header of a blob of 16,777,216 bytes
abbrev pub claim_text : List ℕ
claim_text = codes "[sha224-00000000000000000000000000000000000000000000000000000000 16777216]"

abbrev pub claimed : List ℕ → List ℕ
claimed bytes = take (length bytes) claim_text ++ drop (length claim_text) bytes

-- the bytes of a tail that stay, spoilt or not
abbrev pub spoilt : Loss → ℕ → List ℕ → List ℕ
spoilt Nothing choice bytes = bytes
spoilt Unsynced choice bytes = bytes
spoilt Half choice bytes = bytes
spoilt AllButFirst choice bytes = bytes
spoilt Last choice bytes = bytes
spoilt Zeroed choice bytes = replicate (length bytes) 0
spoilt Garbled choice bytes = garbled choice (length bytes)
spoilt Claimed choice bytes = claimed bytes

-- the bytes since the last sync
abbrev pub tail_of : PackState → List ℕ
tail_of pack = drop (length pack.synced) pack.now

-- what stays of them
abbrev pub tail_left : Loss → ℕ → PackState → List ℕ
tail_left loss choice pack = spoilt loss choice (take (kept loss (length (tail_of pack))) (tail_of pack))

-- what a crash leaves of a pack
abbrev pub left : ℕ → PackState → Option Remains
left choice pack =
    if takes_packs (loss_of choice) && not pack.named then None
    else Some (record { synced = pack.synced; tail = tail_left (loss_of choice) choice pack; named = pack.named })
