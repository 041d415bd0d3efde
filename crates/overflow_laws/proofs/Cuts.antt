-- The sums of a cut, and its values at a trial, end in no operation but one that passes 128 bits.
use Rattle.std.proofs.Common.{ℕ, Bool, true, false, List, [], ◌∷◌, ◌++◌, Option, Some, None, Result, Ok, Err}
use Rattle.rationals.specs.declared.Op.TheVariants.{Add, Div}
use Rattle.rationals.specs.Rational.{ℚ, zero_ℚ, at_most}
use Rattle.rationals.specs.Forms.{put}
use Rattle.rationals.specs.Sparse.{Entry, coefficient}
use Rattle.rationals.specs.Passes.{Operation, then_walk}
use Rattle.rationals.specs.Choices.{pick}
use Rattle.scen_defs.specs.declared.program.NodeRow.{NodeRow}
use Rattle.scen_defs.specs.Ends.{used_end}
use Rattle.scen_defs.specs.Values.{At, at}
use Rattle.cut_defs.specs.declared.datum.ColumnBounds.{ColumnBounds}
use Rattle.cut_defs.specs.declared.kinds.CutKind.{CutKind}
use Rattle.cut_defs.specs.declared.versions.Stamp.{Stamp}
use Rattle.cut_defs.specs.Data.{Datum, is_own}
use Rattle.cut_defs.specs.Stored.{Source, Stored, StoredUses, source_of, cost_of, constant_of, form_of}
use Rattle.cut_defs.specs.Stored.StoredUses.{No_stored, Use_stored}
use Rattle.cut_defs.specs.Support.{support, first_stale}
use Rattle.cut_sums.specs.declared.sums.Priced.{Priced}
use Rattle.cut_sums.specs.declared.sums.Worth.{Worth}
use Rattle.cut_sums.specs.Walks.{uses_from, column_walk, priced_from, all_columns, earlier_walk, form_from, worth_step}
use Rattle.cut_sums.specs.Walks.{rows_worth, columns_worth, uses_worth, no_worth, made, value_walk}
use Rattle.cut_pool.specs.declared.offer.Offer.{Offer}
use Rattle.cut_pool.specs.declared.offer.Offer.TheVariants.{Added, NotNeeded, Stale, Passed}
use Rattle.cut_pool.specs.Held.{Held}
use Rattle.cut_pool.specs.Pool.{greater, same_kind, best_from, least_of, judged, or_passed, offer_by, offer_of}
use Rattle.dual_assemble.specs.Ground.{quotients_from, uses_of_children, ground_source, ground_walk}
use Rattle.claim_laws.proofs.Passing.{EndsIn, IsWide, then_ends, pick_ends, walk_ends, step_ends, product_ends, less_ends}

-- ---- a column
uses_end : (j : ℕ) (s : ℚ) (uses : StoredUses) → EndsIn IsWide (uses_from j s uses)
uses_end j s No_stored = tt
uses_end j s (Use_stored w cut uses) =
    then_ends IsWide _ _ (step_ends Add s w (coefficient (form_of cut) j)) (λ t. uses_end j t uses)

column_ends : (rows : List NodeRow) (y : List Entry) (uses : StoredUses) (j : ℕ) (s : ℚ) → EndsIn IsWide (column_walk rows y uses j s)
column_ends rows y uses j s = then_ends IsWide _ _ (less_ends j (coefficient y) s rows) (λ t. uses_end j t uses)

-- ---- a cut
module _ (d : Datum) (s : Source) (uses : StoredUses) where
  priced_ends : (done : List Priced) (bs : List ColumnBounds) → EndsIn IsWide (priced_from d s uses done bs)
  priced_ends done [] = tt
  priced_ends done (b ∷ bs) =
      then_ends IsWide _ _ (column_ends d.rows s.multipliers uses b.column (cost_of d s.kind b.column))
      (λ q. priced_ends (done ++ record { lower = b.lower; upper = b.upper; value = q } ∷ []) bs)

  earlier_ends : (j : ℕ) → EndsIn IsWide (earlier_walk d s uses j)
  earlier_ends j = pick_ends IsWide (is_own d.bounds j) _ _ tt (column_ends d.rows s.multipliers uses j zero_ℚ)

  form_ends : (done : List Entry) (js : List ℕ) → EndsIn IsWide (form_from d s uses done js)
  form_ends done [] = tt
  form_ends done (j ∷ js) = then_ends IsWide _ _ (earlier_ends j) (λ q. form_ends (done ++ put j q []) js)

worth_ends : (w : Worth) (y : ℚ) (e : Option ℚ) → EndsIn IsWide (worth_step w y e)
worth_ends w y None = tt
worth_ends w y (Some e) = then_ends IsWide _ _ (step_ends Add w.sum y e) (λ t. tt)

rows_end : (y : List Entry) (w : Worth) (rows : List NodeRow) → EndsIn IsWide (rows_worth y w rows)
rows_end y w [] = tt
rows_end y w (r ∷ rs) = then_ends IsWide _ _
    (worth_ends w (coefficient y r.row) (used_end r.low r.high (coefficient y r.row))) (λ t. rows_end y t rs)

columns_end : (w : Worth) (ps : List Priced) → EndsIn IsWide (columns_worth w ps)
columns_end w [] = tt
columns_end w (p ∷ ps) = then_ends IsWide _ _ (worth_ends w p.value (used_end p.lower p.upper p.value)) (λ t. columns_end t ps)

uses_worth_ends : (w : Worth) (uses : StoredUses) → EndsIn IsWide (uses_worth w uses)
uses_worth_ends w No_stored = tt
uses_worth_ends w (Use_stored weight cut uses) =
    then_ends IsWide _ _ (worth_ends w weight (Some (constant_of cut))) (λ t. uses_worth_ends t uses)

pub made_ends : (d : Datum) (s : Source) (uses : StoredUses) → EndsIn IsWide (made d s uses)
made_ends d s uses =
    then_ends IsWide _ _ (priced_ends d s uses [] d.bounds) (λ priced.
    then_ends IsWide _ _ (form_ends d s uses [] (all_columns d.rows uses)) (λ form.
    then_ends IsWide _ _
    (then_ends IsWide _ _ (rows_end s.multipliers no_worth d.rows) (λ a.
    then_ends IsWide _ _ (columns_end a priced) (λ b. uses_worth_ends b uses)))
    (λ w. tt)))

-- ---- a ground cut
quotients_end : (total : ℚ) (y : ℕ → ℚ) (done : List Entry) (rows : List NodeRow) → EndsIn IsWide (quotients_from total y done rows)
quotients_end total y done [] = tt
quotients_end total y done (r ∷ rs) =
    then_ends IsWide _ _ (walk_ends Div (y r.row) total) (λ q. quotients_end total y (done ++ put r.row q []) rs)

pub ground_ends : (d : Datum) (total : ℚ) (dual : List At) (cuts : List Stored) → EndsIn IsWide (ground_walk d total dual cuts)
ground_ends d total dual cuts = then_ends IsWide _ _ (quotients_end total (at dual d.node) [] d.rows)
    (λ y. made_ends d (ground_source d y) (uses_of_children No_stored d.shares cuts))

-- ---- an offer
value_ends : (cut : Stored) (trial : List Entry) → EndsIn IsWide (value_walk cut trial)
value_ends cut trial = product_ends (coefficient trial) (constant_of cut) (form_of cut)

best_ends : (kind : CutKind) (trial : List Entry) (best : Option ℚ) (cs : List Stored) → EndsIn IsWide (best_from kind trial best cs)
best_ends kind trial best [] = tt
best_ends kind trial best (c ∷ cs) =
    pick_ends IsWide (same_kind kind (source_of c).kind) _ _
    (then_ends IsWide _ _ (value_ends c trial) (λ v. best_ends kind trial (Some (greater best v)) cs))
    (best_ends kind trial best cs)

abbrev pub OfferWide : Offer → Type 0
OfferWide Added = Unit {0}
OfferWide (NotNeeded best) = Unit {0}
OfferWide (Stale node part seen known) = Unit {0}
OfferWide (Passed o) = IsWide o

judged_so : (v : ℚ) (best : Option ℚ) → OfferWide (judged v best)
judged_so v None = tt
judged_so v (Some b) = go (at_most v b)
  where
    go : (less : Bool) → OfferWide (pick less (NotNeeded b) Added)
    go true = tt
    go false = tt

-- behind a walk comes an offer, or what is told of its operation
behind_ends : {X : Type 0} (w : Result X Operation) (next : X → Result Offer Operation) → EndsIn IsWide w
    → ((x : X) → OfferWide (or_passed (next x))) → OfferWide (or_passed (then_walk w next))
behind_ends (Ok x) next h k = k x
behind_ends (Err o) next h k = h

by_ends : (stale : Option Stamp) (pool : Held) (cut : Stored) (trial : List Entry) → OfferWide (offer_by stale pool cut trial)
by_ends (Some a) pool cut trial = tt
by_ends None pool cut trial =
    behind_ends (value_walk cut trial) _ (value_ends cut trial) (λ v.
    behind_ends (best_from (source_of cut).kind trial (least_of (source_of cut).kind) pool.cuts) _
    (best_ends (source_of cut).kind trial (least_of (source_of cut).kind) pool.cuts) (judged_so v))

pub offer_ends : (pool : Held) (cut : Stored) (trial : List Entry) → OfferWide (offer_of pool cut trial)
offer_ends pool cut trial = by_ends (first_stale pool.known (support cut)) pool cut trial
