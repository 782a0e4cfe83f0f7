mod Places
mod Zips
mod Turns
mod Gathering
mod Scattering
mod Ending
mod Joins
