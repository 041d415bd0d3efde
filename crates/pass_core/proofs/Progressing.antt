-- What a step leaves, by whether it is told that something was done.
use Rattle.std.proofs.Common.{◌≡◌, ◌⊎◌, inl, inr, Bool, Option, Some, None, IsSome, Result, Ok, Err, OnOk, refl, sym, ap, subst, ◌∙◌}
use Rattle.scen_defs.specs.declared.report.Kind.TheVariants.{Cost}
use Rattle.pass_table.specs.declared.table.Table.{Table}
use Rattle.proved_report.specs.declared.open.Open.{Open}
use Rattle.found_ends.specs.declared.last.Lasts.{Lasts}
use Rattle.pass_core.specs.declared.state.Counts.{Counts}
use Rattle.pass_core.specs.declared.state.State.{State}
use Rattle.pass_core.specs.Counting.{first_stop, with_commit}
use Rattle.pass_core.specs.Reasons.{GainsReasons}
use Rattle.pass_core.specs.Left.{StaysInRun, OpensRun}
use Rattle.pass_core.specs.Turns.{OpensOrStops, Progresses, Rests}

first_is_some : (o : Option Open) (w : Open) → IsSome (first_stop o w)
first_is_some None w = refl
first_is_some (Some f) w = refl

unlike_none : (o : Option Open) → (o ≡ None → ⊥) → IsSome o
unlike_none None h = absurd (h refl)
unlike_none (Some w) h = refl

-- ---- a solve
-- the method is stuck before the solve is counted
pub stuck_progresses : (s new : State) (w : Open) (table : Table) → new ≡ record s { stop = first_stop s.stop w; table = table }
    → Progresses s new
stuck_progresses s new w table e = record {
  budget = ap (λ (x : State). x.budget) e;
  way = inr (record {
    counts = ap (λ (x : State). x.counts) e;
    way = inl (subst (λ (o : Option Open). IsSome o) (sym (ap (λ (x : State). x.stop) e)) (first_is_some s.stop w));
  });
}

-- it is counted
pub counted_progresses : {X E : Type 0} (r : Result X E) (Is : Open → Type 0) (s new : State) (counts : Counts)
    → counts ≡ with_commit s.counts
    → OnOk r (GainsReasons Is (record s { counts = counts }) new) → OnOk r (StaysInRun (record s { counts = counts }) new)
    → OnOk r (Progresses s new)
counted_progresses (Ok x) Is s new counts e g h = record { budget = h.budget; way = inl (g.counts ∙ e) }
counted_progresses (Err o) Is s new counts e g h = tt

-- ---- an opening
pub opened_progresses : {X E : Type 0} (r : Result X E) (Is : Open → Type 0) (old new : State) → (old.kind ≡ Cost → ⊥)
    → OnOk r (GainsReasons Is old new) → OnOk r (OpensRun old new) → OnOk r (Progresses old new)
opened_progresses (Ok x) Is old new unlike g h =
    record { budget = h.budget; way = inr (record { counts = g.counts; way = inr (unlike, h.kind) }) }
opened_progresses (Err o) Is old new unlike g h = tt

pub stopped_progresses : {X E : Type 0} (r : Result X E) (old new : State) → OnOk r (new.stop ≡ None → ⊥)
    → OnOk r (new ≡ record old { stop = new.stop }) → OnOk r (Progresses old new)
stopped_progresses (Ok x) old new h e = record {
  budget = ap (λ (x : State). x.budget) e;
  way = inr (record { counts = ap (λ (x : State). x.counts) e; way = inl (unlike_none new.stop h) });
}
stopped_progresses (Err o) old new h e = tt

-- ---- behind places for last solves
pub ready_progresses : (old s : State) (table : Table) (new : State) → s ≡ record old { lasts = s.lasts; is_begun = s.is_begun }
    → Progresses (record s { table = table }) new → Progresses old new
ready_progresses old s table new e h =
    let k = subst (λ (x : State). Progresses (record x { table = table }) new) e h in record { budget = k.budget; way = go k.way }
  where
    here : State
    here = record old { lasts = s.lasts; is_begun = s.is_begun; table = table }

    go : (new.counts ≡ with_commit old.counts) ⊎ OpensOrStops here new → (new.counts ≡ with_commit old.counts) ⊎ OpensOrStops old new
    go (inl c) = inl c
    go (inr o) = inr (record { counts = o.counts; way = o.way })

pub ready_rests : (old s : State) (table : Table) → s ≡ record old { lasts = s.lasts; is_begun = s.is_begun }
    → Rests old (record s { table = table })
ready_rests old s table e = record {
  counts = ap (λ (x : State). x.counts) e;
  stop = ap (λ (x : State). x.stop) e;
  kind = ap (λ (x : State). x.kind) e;
  ends = ap (λ (x : State). x.ends) e;
  budget = ap (λ (x : State). x.budget) e;
}

-- and behind a Begin
pub begun_others : (old s mid : State) → s ≡ record old { lasts = s.lasts; is_begun = s.is_begun } → mid ≡ record s { table = mid.table }
    → mid ≡ record old { lasts = mid.lasts; is_begun = mid.is_begun; table = mid.table }
begun_others old s mid e h =
    h ∙ ap (λ (x : State). record x { table = mid.table }) e
    ∙ ap (λ (l : Lasts). record old { lasts = l; is_begun = s.is_begun; table = mid.table }) (sym (ap (λ (x : State). x.lasts) h))
    ∙ ap (λ (b : Bool). record old { lasts = mid.lasts; is_begun = b; table = mid.table }) (sym (ap (λ (x : State). x.is_begun) h))
