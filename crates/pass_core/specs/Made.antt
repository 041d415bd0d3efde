-- What the cuts of a state are made of: the data of the nodes by version, which a book has for each bank.
use Rattle.std.specs.Prelude.{◌≡◌, ℕ, ◌≤◌, List, [], ◌∷◌, ◌++◌, Option, None, IfSome, IsSomeAnd, slice_index_or}
use Rattle.std.specs.Option.{option_to_list}
use Rattle.scen_defs.specs.Lists.{Each}
use Rattle.scen_defs.specs.Program.{Program}
use Rattle.scen_defs.specs.Valid.{Lives}
use Rattle.scen_defs.specs.declared.report.Kind.{Kind}
use Rattle.scen_defs.specs.declared.report.Kind.TheVariants.{Feasible, Recession, Cost}
use Rattle.cut_defs.specs.Data.{Book, IsRight}
use Rattle.cut_defs.specs.declared.kinds.Bank.{Bank}
use Rattle.cut_defs.specs.declared.kinds.Bank.TheVariants.{Plain, Cone}
use Rattle.cut_defs.specs.declared.kinds.CutKind.TheVariants.{Bound}
use Rattle.cut_defs.specs.declared.versions.Due.{Due}
use Rattle.cut_defs.specs.Stored.{Stored, source_of, IsMadeFor}
use Rattle.edit_defs.specs.declared.edit.Edit.{Edit}
use Rattle.edit_defs.specs.Data.{view_in, book}
use Rattle.cut_pool.specs.Laws.{AllMadeFor}
use Rattle.cut_pool.specs.Pool.{IsShiftOf}
use Rattle.cut_banks.specs.declared.banks.Banks.{Banks}
use Rattle.node_data.specs.declared.versions.Version.{Version}
use Rattle.node_data.specs.Counts.{version_of}
use Rattle.found_ends.specs.declared.ends.Ends.{Ends}
use Rattle.pass_core.specs.declared.state.State.{State}

-- ---- the books
-- a book for each bank: one for the Feasible and Cost runs, one for the Recession run
pub record BankBooks : Type 0 where
  pub plain : Book
  pub cone : Book

-- that of a run of this kind
abbrev pub run_book : Kind → BankBooks → Book
run_book Feasible b = b.plain
run_book Recession b = b.cone
run_book Cost b = b.plain

-- the books of a program and edits of it, in the forms of a Cost and of a Recession run
abbrev pub script_books : Program → List Edit → BankBooks
script_books p es = record { plain = book Cost p es; cone = book Recession p es }

-- a book is right of each live node of a program, in the form of a run of this kind, with its version
abbrev pub IsRightOf : Kind → Program → List Version → Book → Type 0
IsRightOf kind p versions book =
    (n : ℕ) → Lives p n → IsRight (view_in kind p) book n (version_of versions n).rows (version_of versions n).costs

-- the books of both banks are so: in a Feasible run the costs alone are others
pub record AreBooksOf (p : Program) (versions : List Version) (b : BankBooks) : Type 0 where
  pub plain : IsRightOf Cost p versions b.plain
  pub cone : IsRightOf Recession p versions b.cone

-- ---- the cuts
-- a cut about node n that is made for a book
pub record IsMadeAbout (book : Book) (n : ℕ) (cut : Stored) : Type 0 where
  pub node : (source_of cut).node ≡ n
  pub made : IsMadeFor book cut

-- all cuts of the pools are made for the book of their bank
pub record PoolsAreMade (b : BankBooks) (banks : Banks) : Type 0 where
  pub plain : Each (AllMadeFor b.plain) banks.plain
  pub cone : Each (AllMadeFor b.cone) banks.cone

-- so are those that the ends rest on, about the root: of its last solve for the book of the run, of the lower end for that of Cost runs,
-- and what shows that there is no point for that of the run that found it
pub record EndsAreMade (b : BankBooks) (kind : Kind) (e : Ends) : Type 0 where
  pub root : IfSome e.root (IsMadeAbout (run_book kind b) 0)
  pub lower : IfSome e.lower (λ l. IsMadeAbout b.plain 0 l.cut)
  pub nowhere : IfSome e.nowhere (λ cut. (k : Kind) × IsMadeAbout (run_book k b) 0 cut)

-- all cuts of a state are made for the books
abbrev pub CutsAreMade : BankBooks → State → Type 0
CutsAreMade b s = PoolsAreMade b s.banks × EndsAreMade b s.kind s.ends

-- from one state to another the kind of the run stays, and where all cuts are made for the books they stay so
abbrev pub KeepsMade : BankBooks → State → State → Type 0
KeepsMade b old new = (new.kind ≡ old.kind) × (CutsAreMade b old → CutsAreMade b new)

-- where books are right of the program and all cuts are made for them, they are so behind a step
abbrev pub KeepsBooks : Program → State → State → Type 0
KeepsBooks p old new = (b : BankBooks) → AreBooksOf p old.versions b → CutsAreMade b old → CutsAreMade b new

-- ---- behind an edit
-- the book of a bank
abbrev pub bank_book : Bank → BankBooks → Book
bank_book Plain b = b.plain
bank_book Cone b = b.cone

-- where a due has a shift, it is one of the book of its bank
abbrev pub HasShiftOf : BankBooks → Due → Type 0
HasShiftOf b due = IsShiftOf (bank_book due.bank b) due.shift

-- ---- the cuts of a dual
-- a Bound cut about node n, made for a book
pub record IsGroundOf (book : Book) (n : ℕ) (cut : Stored) : Type 0 where
  pub node : (source_of cut).node ≡ n
  pub kind : (source_of cut).kind ≡ Bound
  pub made : IsMadeFor book cut

-- there is such a cut at each place from n on at which a node of the program lives
abbrev pub HasGrounds : Program → Book → ℕ → List (Option Stored) → Type 0
HasGrounds p book n cuts = (m : ℕ) → n ≤ m → Lives p m → IsSomeAnd (slice_index_or cuts m None) (IsGroundOf book m)

-- the cuts at these places, where there are some
abbrev pub cuts_there : List (Option Stored) → List ℕ → List Stored
cuts_there cuts [] = []
cuts_there cuts (n ∷ ns) = option_to_list (slice_index_or cuts n None) ++ cuts_there cuts ns
