-- The cut that a solve gives is up to date, where those of its task are.
use Rattle.std.proofs.Common.{◌≡◌, ℕ, suc, List, [], ◌∷◌, Option, Some, None, IfSome, slice_get, refl, sym, ap, subst}
use Rattle.scen_defs.specs.Lists.{Each}
use Rattle.scen_defs.specs.Program.{Program}
use Rattle.scen_defs.specs.declared.report.Kind.{Kind}
use Rattle.scen_defs.specs.declared.report.Kind.TheVariants.{Feasible, Recession, Cost}
use Rattle.scen_defs.proofs.SumLaws.{each-map}
use Rattle.rationals.specs.Forms.{IsForm}
use Rattle.cut_defs.specs.declared.kinds.CutKind.{CutKind}
use Rattle.cut_defs.specs.Data.{Datum}
use Rattle.cut_defs.specs.Stored.{Stored, source_of}
use Rattle.cut_pool.specs.Held.{Held}
use Rattle.cut_banks.specs.declared.banks.Banks.{Banks}
use Rattle.cut_banks.specs.Banks.{pools_of}
use Rattle.cut_proof.specs.declared.child.ChildCuts.{ChildCuts}
use Rattle.node_lp.specs.Weighed.{Weighed}
use Rattle.node_lp.specs.Told.{record_of}
use Rattle.node_data.specs.declared.versions.Version.{Version}
use Rattle.node_data.specs.Frames.{children_in}
use Rattle.pass_core.specs.Explained.{cut_given}
use Rattle.pass_core.proofs.CutNodes.{answer_about}
use Rattle.pass_core.proofs.Making.{AllHave, read_have}
use Rattle.kept_cut_laws.specs.Kept.{EachRecord, IsUpToDate, IsCutNow, AreKept, BanksAreKept}
use Rattle.kept_cut_laws.specs.Laws.{SolvesGiveCuts}
use Rattle.kept_cut_laws.proofs.Records.{solved_records}

-- the pools of a run of either kind
pub kept_of_kind : (p : Program) (versions : List Version) (most : ℕ) (kind : Kind) (b : Banks) → BanksAreKept p versions most b
    → AreKept p versions most (pools_of kind b)
kept_of_kind p versions most Feasible b h = h.plain
kept_of_kind p versions most Recession b h = h.cone
kept_of_kind p versions most Cost b h = h.plain

-- what each pool at its place has, all have
all_have : (P : Stored → Type 0) (pools : List Held) → ((n : ℕ) (pool : Held) → slice_get pools n ≡ Some pool → AllHave P pool)
    → Each (AllHave P) pools
all_have P [] h = tt
all_have P (pool ∷ pools) h = (h 0 pool refl, all_have P pools (λ n. h (suc n)))

-- a cut about the node, of which all records are up to date
pub cut_now : (p : Program) (versions : List Version) (n : ℕ) (o : Option Stored) → IfSome o (λ c. (source_of c).node ≡ n)
    → IfSome o (EachRecord (IsUpToDate p versions)) → IfSome o (IsCutNow p versions n)
cut_now p versions n None a h = tt
cut_now p versions n (Some cut) a h = record { node = a; records = h }

pub solves_give_cuts : SolvesGiveCuts
solves_give_cuts p s n most task all i live framed is_task fits told answer kept =
    cut_now p s.versions n (cut_given all)
    (answer_about task n all (ap (λ (d : Datum). d.node) is_task.datum) answer)
    (solved_records (IsUpToDate p s.versions) task all fits told own children)
  where
    own : (kind : CutKind) (m : Weighed) → IsForm m.rows → IsUpToDate p s.versions (record_of task.datum kind m)
    own kind m form = subst (λ (d : Datum). IsUpToDate p s.versions (record_of d kind m)) (sym is_task.datum)
        (record { live = live; rows = refl; costs = λ e. refl; form = form })

    children : Each (λ (c : ChildCuts). Each (EachRecord (IsUpToDate p s.versions)) c.cuts.items) task.children.items
    children = read_have (EachRecord (IsUpToDate p s.versions)) (pools_of s.kind s.banks) (children_in s.frame n) task.children.items is_task.cuts
        (all_have (EachRecord (IsUpToDate p s.versions)) (pools_of s.kind s.banks)
        (λ j pool e. each-map (λ c k. k.records) pool.cuts (kept_of_kind p s.versions most s.kind s.banks kept j pool e).cuts))
