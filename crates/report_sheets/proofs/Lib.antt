pub mod SheetLemmas
