-- Solves, first cuts and edits leave pools with nothing but cuts that are made of what the program has then.
use Rattle.std.specs.Prelude.{◌≡◌, ℕ, ◌+◌, ◌-◌, ◌^◌, ◌<◌, ◌≤◌, List, [], length, Option, None, IfSome, slice_index_or}
use Rattle.rationals.specs.Sparse.{Entry}
use Rattle.scen_defs.specs.Program.{Program}
use Rattle.scen_defs.specs.Valid.{IsProgram, Lives}
use Rattle.scen_defs.specs.Values.{At}
use Rattle.scen_defs.specs.declared.report.Kind.{Kind}
use Rattle.scen_tree.specs.Trees.{Tree}
use Rattle.cut_defs.specs.Stored.{Stored}
use Rattle.cut_defs.specs.Support.{support, first_stale}
use Rattle.cut_pool.specs.Held.{Held}
use Rattle.cut_banks.specs.declared.banks.Banks.{Banks}
use Rattle.edit_defs.specs.declared.edit.Edit.{Edit}
use Rattle.edit_defs.specs.After.{after}
use Rattle.edit_defs.specs.Applies.{Applies}
use Rattle.edit_defs.specs.Shifts.{HasWidths}
use Rattle.node_lp.specs.declared.task.Task.{Task}
use Rattle.node_lp.specs.Problem.{IsProblem, problem_of}
use Rattle.node_lp.specs.declared.solved.Solved.{Solved}
use Rattle.node_lp.specs.Tested.{IsToldOf}
use Rattle.node_lp.specs.Answers.{IsAnswer}
use Rattle.node_data.specs.declared.versions.Version.{Version}
use Rattle.node_data.specs.Counts.{version_of}
use Rattle.node_data.specs.Frames.{frame_of}
use Rattle.pass_core.specs.declared.state.State.{State}
use Rattle.pass_core.specs.Explained.{cut_given}
use Rattle.pass_core.specs.Grounds.{put_cuts}
use Rattle.pass_core.specs.Left.{offered_banks}
use Rattle.pass_core.specs.Made.{script_books, PoolsAreMade}
use Rattle.pass_core.specs.Turns.{IsTaskOf, AreFirstCuts}
use Rattle.nested_method.specs.Edited.{dues_of, retired, raised_versions}
use Rattle.kept_cut_laws.specs.Kept.{IsCutNow, IsKeptAt, BanksAreKept}

-- no cut that is up to date rests on a touch that such a pool knows
abbrev pub NothingIsStale : Type 0
NothingIsStale = (p : Program) (versions : List Version) (most n m : ℕ) (pool : Held) (cut : Stored) → IsKeptAt p versions most n pool
    → IsCutNow p versions m cut → first_stale pool.known (support cut) ≡ None

-- the cut that a solve of a live node gives is up to date, where those of its task are
abbrev pub SolvesGiveCuts : Type 0
SolvesGiveCuts = (p : Program) (s : State) (n most : ℕ) (task : Task) (all : Solved) → IsProgram p → Lives p n → s.frame ≡ frame_of p
    → IsTaskOf p s n task → IsProblem (problem_of task) → IsToldOf task all → IsAnswer task all → BanksAreKept p s.versions most s.banks
    → IfSome (cut_given all) (IsCutNow p s.versions n)

-- so the pools to which it is offered stay so
abbrev pub OffersKeepCuts : Type 0
OffersKeepCuts = (p : Program) (versions : List Version) (kind : Kind) (n most : ℕ) (cut : Option Stored) (banks : Banks)
    → IfSome cut (IsCutNow p versions n) → BanksAreKept p versions most banks
    → (trial : List Entry) → BanksAreKept p versions (most + 1) (offered_banks kind n cut trial banks)

-- and the first cuts of a run are up to date, and so are the pools with them
pub record FirstCutsAreKept : Type 0 where
  pub cuts : (kind : Kind) (p : Program) (tree : Tree) (versions : List Version) (dual : List At) (cuts : List (Option Stored))
      → IsProgram p → AreFirstCuts kind p tree versions dual cuts → (n : ℕ) → IfSome (slice_index_or cuts n None) (IsCutNow p versions n)
  pub pools : (kind : Kind) (p : Program) (versions : List Version) (most : ℕ) (cuts : List (Option Stored)) (banks : Banks)
      → ((n : ℕ) → IfSome (slice_index_or cuts n None) (IsCutNow p versions n)) → BanksAreKept p versions most banks
      → BanksAreKept p versions (most + 1) (put_cuts kind cuts banks)

-- what pools keep behind an edit: their cuts are made of the data of the program after it, and are up to date
pub record CutsAreNow (p : Program) (versions : List Version) (most : ℕ) (b : Banks) : Type 0 where
  pub made : PoolsAreMade (script_books p []) b
  pub kept : BanksAreKept p versions most b

-- so it is behind an edit, where it was so before, no version has come to the greatest number of 32 bits, and no number of a pool comes to
-- that of 64 bits
abbrev pub EditsKeepCuts : Type 0
EditsKeepCuts = (p : Program) (e : Edit) (versions : List Version) (most : ℕ) (banks : Banks)
    → IsProgram p → HasWidths p → Applies p e → length p.nodes ≤ length versions
    → ((n : ℕ) → (version_of versions n).rows < 2 ^ 32 - 1) → ((n : ℕ) → (version_of versions n).costs < 2 ^ 32 - 1)
    → most + length (dues_of p e versions) < 2 ^ 64 - 1
    → CutsAreNow p versions most banks
    → CutsAreNow (after p e) (raised_versions p e versions) (most + length (dues_of p e versions)) (retired p e versions banks)

-- an edit has at most 512 sweeps: it touches at most 16 places, above each of which there are at most 16 nodes, with pools in both banks
abbrev pub DuesAreFew : Type 0
DuesAreFew = (p : Program) (e : Edit) (versions : List Version) → IsProgram p → Applies p e → length (dues_of p e versions) ≤ 512
