pub mod Tails
pub mod MadeFrom
pub mod RepairLaws
pub mod NotGood
pub mod Behind
