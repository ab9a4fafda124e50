mod Gathered
mod LeftOut
mod Slotted
mod Verdicts
