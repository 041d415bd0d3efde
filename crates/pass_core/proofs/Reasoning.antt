-- Which reasons the parts of a step add.
use Rattle.std.proofs.Common.{◌≡◌, ◌⊎◌, inl, inr, ℕ, zero, suc, ◌<◌, Bool, true, false, List, Option, Some, None}
use Rattle.std.proofs.Common.{refl, sym, ap, subst, ◌∙◌, arith}
use Rattle.std.specs.Option.{option_map}
use Rattle.rationals.specs.Rational.{ℚ}
use Rattle.rationals.specs.Passes.{Operation}
use Rattle.rationals.specs.Sparse.{Entry}
use Rattle.rationals.specs.Choices.{pick}
use Rattle.scen_defs.specs.declared.report.Kind.{Kind}
use Rattle.scen_defs.specs.declared.report.Place.{Place}
use Rattle.scen_defs.specs.declared.report.Place.TheVariants.{Solve, Cut, Cost, Ground, Dual, Check}
use Rattle.node_lp.specs.declared.solved.Solved.{Solved}
use Rattle.node_lp.specs.declared.solved.Solved.TheVariants as solved
use Rattle.cut_pool.specs.declared.offer.Offer.{Offer}
use Rattle.cut_pool.specs.declared.offer.Offer.TheVariants as offer
use Rattle.cut_defs.specs.Stored.{Stored, source_of}
use Rattle.cut_pool.specs.Held.{Held}
use Rattle.cut_pool.specs.Pool.{offer_of}
use Rattle.cut_banks.specs.declared.banks.Banks.{Banks}
use Rattle.cut_banks.specs.Banks.{pools_of}
use Rattle.cut_banks.specs.Pools.{may_take, pool_if}
use Rattle.proved_report.specs.declared.open.Open.{Open}
use Rattle.proved_report.specs.declared.open.Open.TheVariants as reason
use Rattle.pass_core.specs.declared.budget.Budget.{Budget}
use Rattle.pass_core.specs.declared.state.Counts.{Counts}
use Rattle.pass_core.specs.declared.state.State.{State}
use Rattle.pass_core.specs.Counting.{first_stop, first_or, after_answer}
use Rattle.pass_core.specs.Reasons.{HasReason, IsStale, IsRefused, by_none, by_pool}
use Rattle.pass_core.specs.Reasons.{Halts, pool_halts, cut_halts, solve_halts, IsAtSolve, IsOfSolve, IsOfOpening, IsLasting, GainsReasons}
use Rattle.pass_core.proofs.Leaving.{answering}

-- nothing stops the method that didn't before
pub same_reasons : (Is : Open → Type 0) (a b : State) → b.counts ≡ a.counts → b.stop ≡ a.stop → b.lasting ≡ a.lasting → GainsReasons Is a b
same_reasons Is a b c s l = record { counts = c; stop = λ why h. inl (inl (sym s ∙ h)); lasting = λ why h. inl (sym l ∙ h) }

-- one change behind another
pub then_reasons : (Is : Open → Type 0) (a b c : State) → GainsReasons Is a b → GainsReasons Is b c → GainsReasons Is a c
then_reasons Is a b c x y = record {
  counts = y.counts ∙ x.counts;
  stop = λ why h. go why (y.stop why h);
  lasting = λ why h. further why (y.lasting why h);
}
  where
    lasted : (why : Open) → (a.lasting ≡ Some why) ⊎ (Is why × IsLasting why) → HasReason a why ⊎ Is why
    lasted why (inl l) = inl (inr l)
    lasted why (inr i) = inr i.0

    go : (why : Open) → HasReason b why ⊎ Is why → HasReason a why ⊎ Is why
    go why (inl (inl s)) = x.stop why s
    go why (inl (inr l)) = lasted why (x.lasting why l)
    go why (inr i) = inr i

    further : (why : Open) → (b.lasting ≡ Some why) ⊎ (Is why × IsLasting why) → (a.lasting ≡ Some why) ⊎ (Is why × IsLasting why)
    further why (inl l) = x.lasting why l
    further why (inr i) = inr i

first_of_two : (Is : Open → Type 0) (first : Option Open) (w why : Open) → first_stop first w ≡ Some why → Is w → (first ≡ Some why) ⊎ Is why
first_of_two Is None w why e i = let same : w ≡ why = cc in inr (subst Is same i)
first_of_two Is (Some f) w why e i = inl e

-- the method stops
pub stopped_reasons : (Is : Open → Type 0) (a b : State) (w : Open) → b.counts ≡ a.counts → b.stop ≡ first_stop a.stop w → b.lasting ≡ a.lasting → Is w → GainsReasons Is a b
stopped_reasons Is a b w c s l i = record {
  counts = c;
  stop = λ why h. elim (first_of_two Is a.stop w why (sym s ∙ h) i) [ inl e ↦ inl (inl e) | inr j ↦ inr j ];
  lasting = λ why h. inl (sym l ∙ h);
}

either_first : (first other : Option Open) (why : Open) → first_or first other ≡ Some why → (first ≡ Some why) ⊎ (other ≡ Some why)
either_first None other why e = inr e
either_first (Some f) other why e = inl e

-- for the present run
pub run_reasons : (Is : Open → Type 0) (a b : State) (w : Open) → b.counts ≡ a.counts → b.stop ≡ first_or a.stop (first_stop a.lasting w) → b.lasting ≡ first_stop a.lasting w
    → Is w → IsLasting w → GainsReasons Is a b
run_reasons Is a b w c s l i k = record {
  counts = c;
  stop = λ why h. elim (either_first a.stop (first_stop a.lasting w) why (sym s ∙ h)) [
    | inl e ↦ inl (inl e)
    | inr e ↦ elim (first_of_two Is a.lasting w why e i) [ inl f ↦ inl (inr f) | inr j ↦ inr j ]
  ];
  lasting = λ why h. first_of_two (λ (o : Open). Is o × IsLasting o) a.lasting w why (sym l ∙ h) (i, k);
}

-- the same where more is told of each reason that is gained
pub wider_reasons : (Is Js : Open → Type 0) (a b : State) → ((why : Open) → Is why → Js why) → GainsReasons Is a b → GainsReasons Js a b
wider_reasons Is Js a b f g = record {
  counts = g.counts;
  stop = λ why h. elim (g.stop why h) [ inl e ↦ inl e | inr i ↦ inr (f why i) ];
  lasting = λ why h. elim (g.lasting why h) [ inl e ↦ inl e | inr i ↦ inr (f why i.0, i.1) ];
}

-- one is halted wherever the other is
pub record IsWithin (A B : Halts) : Type 0 where
  pub stuck : A.stuck → B.stuck
  pub in_offer : (o : Operation) → A.in_offer o → B.in_offer o
  pub in_cost : (o : Operation) → A.in_cost o → B.in_cost o

wider_place : (A B : Halts) (k : ℕ) (all : Solved) → IsWithin A B → (o : Operation) (place : Place) → IsAtSolve k all A o place
    → IsAtSolve k all B o place
wider_place A B k all f o (Solve j) h = h
wider_place A B k all f o (Cut j) h = (h.0, elim h.1 [ inl e ↦ inl e | inr q ↦ inr (f.in_offer o q) ])
wider_place A B k all f o (Cost j) h = (h.0, f.in_cost o h.1)
wider_place A B k all f o Ground h = h
wider_place A B k all f o Dual h = h
wider_place A B k all f o Check h = h

wider_solve : (A B : Halts) (k allowed : ℕ) (all : Solved) → IsWithin A B → (why : Open) → IsOfSolve k allowed all A why
    → IsOfSolve k allowed all B why
wider_solve A B k allowed all f (reason.Solves n) h = (h.0, f.stuck h.1)
wider_solve A B k allowed all f (reason.Pivots j) h = h
wider_solve A B k allowed all f (reason.Passed place o) h = wider_place A B k all f o place h

pub stuck_wider : (A B : Halts) (k allowed : ℕ) (all : Solved) (a b : State) → IsWithin A B → GainsReasons (IsOfSolve k allowed all A) a b
    → GainsReasons (IsOfSolve k allowed all B) a b
stuck_wider A B k allowed all a b f g =
    wider_reasons (IsOfSolve k allowed all A) (IsOfSolve k allowed all B) a b (wider_solve A B k allowed all f) g

pub wider_opening : (A B : Type 0) (Ps Qs : Operation → Type 0) (allowed : ℕ) → (A → B) → ((o : Operation) → Ps o → Qs o) → (why : Open)
    → IsOfOpening allowed A Ps why → IsOfOpening allowed B Qs why
wider_opening A B Ps Qs allowed f g (reason.Solves n) h = (h.0, f h.1)
wider_opening A B Ps Qs allowed f g (reason.Pivots j) h = h
wider_opening A B Ps Qs allowed f g (reason.Passed place o) h = (h.0, g o h.1)

-- a pool's answer
abbrev pub answer_halts : Offer → Halts
answer_halts answer =
    record { stuck = IsStale answer; in_offer = λ (o : Operation). answer ≡ offer.Passed o; in_cost = λ (o : Operation). ⊥ }

pub answered_reasons : (all : Solved) (answer : Offer) (s : State)
    → GainsReasons (IsOfSolve s.counts.all s.budget.solves all (answer_halts answer)) s (after_answer answer s)
answered_reasons all offer.Added s =
    same_reasons (IsOfSolve s.counts.all s.budget.solves all (answer_halts offer.Added)) s s refl refl refl
answered_reasons all (offer.NotNeeded value) s =
    same_reasons (IsOfSolve s.counts.all s.budget.solves all (answer_halts (offer.NotNeeded value))) s s refl refl refl
answered_reasons all (offer.Stale node part seen known) s =
    stopped_reasons (IsOfSolve s.counts.all s.budget.solves all (answer_halts (offer.Stale node part seen known))) s
    (after_answer (offer.Stale node part seen known) s) (reason.Solves s.budget.solves) refl refl refl (refl, tt)
answered_reasons all (offer.Passed o) s =
    run_reasons (IsOfSolve s.counts.all s.budget.solves all (answer_halts (offer.Passed o))) s (after_answer (offer.Passed o) s)
    (reason.Passed (Cut s.counts.all) o) refl refl refl (refl, inr refl) (inl (s.counts.all, refl))

-- the solve itself passes
pub told_at : (in_cut : Bool) (k : ℕ) (o : Operation) (halts : Halts)
    → IsAtSolve k (solved.Passed in_cut o) halts o (pick in_cut (Cut k) (Solve k))
told_at true k o halts = (refl, inl refl)
told_at false k o halts = (refl, refl)

-- behind a change that keeps the counts and the budget, of a solve that is counted as before
pub solve_reasons : (A : Halts) (all : Solved) (a b c : State) → b.budget ≡ a.budget
    → GainsReasons (IsOfSolve a.counts.all a.budget.solves all A) a b
    → GainsReasons (IsOfSolve b.counts.all b.budget.solves all A) b c
    → GainsReasons (IsOfSolve a.counts.all a.budget.solves all A) a c
solve_reasons A all a b c e x y =
    then_reasons (IsOfSolve a.counts.all a.budget.solves all A) a b c x
    (subst (λ (k : Counts). GainsReasons (IsOfSolve k.all a.budget.solves all A) b c) x.counts
    (subst (λ (n : Budget). GainsReasons (IsOfSolve b.counts.all n.solves all A) b c) e y))

-- behind a change that keeps the budget, a cut that isn't put
abbrev IsOfPut : ℕ → Type 0 → Open → Type 0
IsOfPut allowed Stuck = IsOfOpening allowed Stuck (λ o. ⊥)

pub put_reasons : (A B : Type 0) (a b c : State) → b.budget ≡ a.budget → (A → B) → GainsReasons (IsOfPut a.budget.solves B) a b
    → GainsReasons (IsOfPut b.budget.solves A) b c → GainsReasons (IsOfPut a.budget.solves B) a c
put_reasons A B a b c e f x y =
    then_reasons (IsOfPut a.budget.solves B) a b c x
    (wider_reasons (IsOfPut a.budget.solves A) (IsOfPut a.budget.solves B) b c
    (wider_opening A B (λ o. ⊥) (λ o. ⊥) a.budget.solves f (λ o h. h))
    (subst (λ (n : Budget). GainsReasons (IsOfPut n.solves A) b c) e y))

-- ---- where a cut is refused
-- the cut of a node above the root
pub refused_above : (kind : Kind) (banks : Banks) (n : ℕ) (trial : List Entry) (o : Option Stored) (cut : Stored) → 0 < n → o ≡ Some cut
    → IsWithin (pool_halts (pools_of kind banks) trial cut) (cut_halts kind banks n trial o)
refused_above kind banks zero trial o cut low e = absurd (omega (arith, low))
refused_above kind banks (suc n) trial o cut low e =
    subst (λ (x : Option Stored). IsWithin (pool_halts (pools_of kind banks) trial cut) (cut_halts kind banks (suc n) trial x)) (sym e)
    (record { stuck = λ h. h; in_offer = λ p h. h; in_cost = λ p h. h })

-- the same where the kind and the banks are given otherwise
pub refused_as : (a b : State) (n : ℕ) (trial x : List Entry) (value : ℚ) (o : Option Stored) → b.kind ≡ a.kind → b.banks ≡ a.banks
    → IsWithin (cut_halts b.kind b.banks n trial o) (solve_halts a.kind a.banks n trial (solved.Point x value o) (λ p. ⊥))
refused_as a b n trial x value o k e =
    subst (λ (kind : Kind). IsWithin (cut_halts b.kind b.banks n trial o) (solve_halts kind a.banks n trial (solved.Point x value o) (λ p. ⊥)))
    k (subst (λ (banks : Banks).
    IsWithin (cut_halts b.kind b.banks n trial o) (solve_halts b.kind banks n trial (solved.Point x value o) (λ p. ⊥))) e
    (record { stuck = λ h. inr h; in_offer = λ p h. h; in_cost = λ p h. h }))

-- no pool may take it
pub unanswered_refused : (pools : List Held) (trial : List Entry) (cut : Stored)
    → None ≡ option_map (λ p. offer_of p cut trial) (pool_if (may_take cut) (source_of cut).node pools) → IsRefused pools trial cut
unanswered_refused pools trial cut e = by_none (go (pool_if (may_take cut) (source_of cut).node pools) e)
  where
    go : (found : Option Held) → None ≡ option_map (λ p. offer_of p cut trial) found → found ≡ None
    go None e = refl
    go (Some pool) e = absurd (cc)

-- or one finds it stale, or an operation of its answer passes
pub answer_within : (pools : List Held) (trial : List Entry) (cut : Stored) (o : Offer)
    → Some o ≡ option_map (λ p. offer_of p cut trial) (pool_if (may_take cut) (source_of cut).node pools)
    → IsWithin (answer_halts o) (pool_halts pools trial cut)
answer_within pools trial cut o e = let found = answering (λ p. offer_of p cut trial) (pool_if (may_take cut) (source_of cut).node pools) o e in
    record {
      stuck = λ h. by_pool found.0 found.1.0 (subst IsStale (sym found.1.1) h);
      in_offer = λ p h. record { pool = found.0; there = found.1.0; passes = found.1.1 ∙ h };
      in_cost = λ p h. h;
    }

-- a state that changes in nothing else than these parts
pub by_same : (Is : Open → Type 0) (a b c : State) → b ≡ c → GainsReasons Is a c → GainsReasons Is a b
by_same Is a b c e h = subst (GainsReasons Is a) (sym e) h

-- there are places for last solves, and something is done from now on
pub ready_gains : (Is : Open → Type 0) (a b : State) → b ≡ record a { lasts = b.lasts; is_begun = b.is_begun } → GainsReasons Is a b
ready_gains Is a b e = same_reasons Is a b (ap (λ (x : State). x.counts) e) (ap (λ (x : State). x.stop) e) (ap (λ (x : State). x.lasting) e)
