-- The walks of the own rows and the bounds give the rows of three kinds of the own rows' spans.
use Rattle.std.proofs.Common.{◌≡◌, ℕ, ◌≤◌, ◌<◌, Bool, true, false, List, [], ◌∷◌, ◌++◌, Option, Some, None, Ok, length, refl, sym, ap, ◌∙◌, append_assoc, append-nil, arith}
use Rattle.rationals.specs.Rational.{ℚ, one_ℚ, ◌+ℚ◌, ◌-ℚ◌, ◌*ℚ◌, by_ring, by_eqs, terms, ne_of_gt_ℚ, zero_lt_one_ℚ}
use Rattle.rationals.specs.Ring.Eqs.{done, by_eq}
use Rattle.rationals.specs.declared.Op.TheVariants.{Add, Sub}
use Rattle.rationals.specs.Order.{same}
use Rattle.rationals.specs.OrderLaws.{same_means}
use Rattle.rationals.specs.Passes.{then_walk, step_walk, sub_walk}
use Rattle.rationals.specs.Sparse.{Entry, product, coefficient}
use Rattle.rationals.proofs.WalkLaws.{step_value}
use Rattle.rationals.specs.Choices.{pick}
use Rattle.smps_words.specs.declared.row_kind.RowKind.{RowKind}
use Rattle.smps_words.specs.declared.row_kind.RowKind.TheVariants.{Less, Greater, Equal}
use Rattle.lp_defs.specs.Walks.{Walk, after_ok, sub_walk_is}
use Rattle.lp_defs.specs.Program.{IsFormBelow}
use Rattle.slack_form.specs.declared.limits.Limit.{Limit}
use Rattle.slack_form.specs.Limits.{AllBelow}
use Rattle.scen_defs.specs.declared.program.NodeRow.{NodeRow}
use Rattle.cut_defs.specs.declared.datum.ColumnBounds.{ColumnBounds}
use Rattle.interval_form.specs.declared.part.Part.{Part}
use Rattle.interval_form.specs.Parts.{part_of, behind, parts_from, behind_all, AreParts, entry, spread_form}
use Rattle.interval_form.specs.Own.{own_form, other_form}
use Rattle.interval_form.specs.Spans.{Span, AreSpans, shift_at, limit_of, end_limits, span_limits, width_limit, bound_limit, bound_limits}
use Rattle.interval_form.specs.Rows.{terms_walk, right_walk, limit_walk, push_walk, ends_walk, own_limits_from, bound_walk, bound_limits_from}
use Rattle.interval_form.specs.Trial.{met, less_end, spans_at}
use Rattle.interval_form.proofs.PartLemmas.{spread_is_form}

-- ---- the walks give them

abbrev pub given : {A : Type 0} → A → Walk A
given a = Ok a

pub ok_same : {A : Type 0} (a b : A) → given a ≡ given b → a ≡ b
ok_same a b e = cc

terms_less : (x : ℕ → ℚ) (s : ℚ) (f : List Entry) (r : ℚ) → terms_walk Sub x s f ≡ Ok r → r ≡ s -ℚ product f x
terms_less x s [] r e = sym (ok_same s r e) ∙ by_ring (s ∷ []) (search terms depth 40) tt
terms_less x s (d ∷ f) r e =
    let b = after_ok (step_walk Sub s d.value (x d.column)) (λ t. terms_walk Sub x t f) r e in
    let q : b.0 ≡ s -ℚ d.value *ℚ x d.column = step_value Sub s d.value (x d.column) b.0 b.1 in
    let t : r ≡ b.0 -ℚ product f x = terms_less x b.0 f r b.2 in
    by_eqs (r ∷ b.0 ∷ s ∷ d.value ∷ x d.column ∷ product f x ∷ []) (by_eq one_ℚ t (by_eq one_ℚ q done)) (search terms depth 40) tt

pub terms_more : (x : ℕ → ℚ) (s : ℚ) (f : List Entry) (r : ℚ) → terms_walk Add x s f ≡ Ok r → r ≡ s +ℚ product f x
terms_more x s [] r e = sym (ok_same s r e) ∙ by_ring (s ∷ []) (search terms depth 40) tt
terms_more x s (d ∷ f) r e =
    let b = after_ok (step_walk Add s d.value (x d.column)) (λ t. terms_walk Add x t f) r e in
    let q : b.0 ≡ s +ℚ d.value *ℚ x d.column = step_value Add s d.value (x d.column) b.0 b.1 in
    let t : r ≡ b.0 +ℚ product f x = terms_more x b.0 f r b.2 in
    by_eqs (r ∷ b.0 ∷ s ∷ d.value ∷ x d.column ∷ product f x ∷ []) (by_eq one_ℚ t (by_eq one_ℚ q done)) (search terms depth 40) tt

pub right_less : (bs : List ColumnBounds) (parts : List Part) (trial : List Entry) (s : ℚ) (f : List Entry) (r : ℚ) → right_walk Sub bs parts trial s f ≡ Ok r
    → r ≡ (s -ℚ met bs trial f) -ℚ product (own_form bs f) (shift_at parts)
right_less bs parts trial s f r e =
    let a = after_ok (terms_walk Sub (coefficient trial) s (other_form bs f)) (λ t. terms_walk Sub (shift_at parts) t (own_form bs f)) r e in
    terms_less (shift_at parts) a.0 (own_form bs f) r a.2 ∙ ap (λ q. q -ℚ product (own_form bs f) (shift_at parts)) (terms_less (coefficient trial) s (other_form bs f) a.0 a.1)

pub right_more : (bs : List ColumnBounds) (parts : List Part) (trial : List Entry) (s : ℚ) (f : List Entry) (r : ℚ) → right_walk Add bs parts trial s f ≡ Ok r
    → r ≡ (s +ℚ met bs trial f) +ℚ product (own_form bs f) (shift_at parts)
right_more bs parts trial s f r e =
    let a = after_ok (terms_walk Add (coefficient trial) s (other_form bs f)) (λ t. terms_walk Add (shift_at parts) t (own_form bs f)) r e in
    terms_more (shift_at parts) a.0 (own_form bs f) r a.2 ∙ ap (λ q. q +ℚ product (own_form bs f) (shift_at parts)) (terms_more (coefficient trial) s (other_form bs f) a.0 a.1)

-- ends that are equal stay equal, and others don't
pub same_less : (a b t : ℚ) → same (a -ℚ t) (b -ℚ t) ≡ same a b
same_less a b t = go (same a b) refl (same (a -ℚ t) (b -ℚ t)) refl
  where
    go : (s : Bool) → same a b ≡ s → (u : Bool) → same (a -ℚ t) (b -ℚ t) ≡ u → u ≡ s
    go true p true q = refl
    go false p false q = refl
    go true p false q = sym q ∙ (same_means (a -ℚ t) (b -ℚ t)).1 (ap (λ z. z -ℚ t) ((same_means a b).0 p))
    go false p true q = sym ((same_means a b).1 (by_eqs (a ∷ b ∷ t ∷ []) (by_eq one_ℚ ((same_means (a -ℚ t) (b -ℚ t)).0 q) done) (search terms depth 40) tt)) ∙ p

module _ (bs : List ColumnBounds) (parts : List Part) (trial : List Entry) where
  limit_is : (f : List Entry) (kind : RowKind) (end : ℚ) (l : Limit) → limit_walk bs parts trial f kind end ≡ Ok l → l ≡ limit_of parts (own_form bs f) kind (end -ℚ met bs trial f)
  limit_is f kind end l e =
      let a = after_ok (right_walk Sub bs parts trial end f) (λ right. Ok (record { entries = spread_form parts (own_form bs f); kind = kind; right = right })) l e in
      sym (ok_same _ l a.2) ∙ ap (λ (r : ℚ). record { entries = spread_form parts (own_form bs f); kind = kind; right = r }) (right_less bs parts trial end f a.0 a.1)

  push_is : (f : List Entry) (made : List Limit) (kind : RowKind) (end : ℚ) (all : List Limit) → push_walk bs parts trial f made kind end ≡ Ok all
      → all ≡ made ++ limit_of parts (own_form bs f) kind (end -ℚ met bs trial f) ∷ []
  push_is f made kind end all e =
      let a = after_ok (limit_walk bs parts trial f kind end) (λ limit. Ok (made ++ limit ∷ [])) all e in
      sym (ok_same (made ++ a.0 ∷ []) all a.2) ∙ ap (λ (l : Limit). made ++ l ∷ []) (limit_is f kind end a.0 a.1)

  ends_are : (f : List Entry) (made : List Limit) (low high : Option ℚ) (all : List Limit) → ends_walk bs parts trial f made low high ≡ Ok all
      → all ≡ made ++ end_limits parts (own_form bs f) (less_end (met bs trial f) low) (less_end (met bs trial f) high)
  ends_are f made None None all e = sym (ok_same made all e) ∙ sym (append-nil made)
  ends_are f made (Some low) None all e = push_is f made Greater low all e
  ends_are f made None (Some high) all e = push_is f made Less high all e
  ends_are f made (Some low) (Some high) all e = go (same low high) e ∙ ap (λ b. made ++ pick b (here Equal low ∷ []) (here Greater low ∷ here Less high ∷ [])) (sym (same_less low high (met bs trial f)))
    where
      here : RowKind → ℚ → Limit
      here kind end = limit_of parts (own_form bs f) kind (end -ℚ met bs trial f)

      go : (b : Bool) → pick b (push_walk bs parts trial f made Equal low) (then_walk (push_walk bs parts trial f made Greater low) (λ more. push_walk bs parts trial f more Less high)) ≡ Ok all
          → all ≡ made ++ pick b (here Equal low ∷ []) (here Greater low ∷ here Less high ∷ [])
      go true h = push_is f made Equal low all h
      go false h =
          let a = after_ok (push_walk bs parts trial f made Greater low) (λ more. push_walk bs parts trial f more Less high) all h in
          push_is f a.0 Less high all a.2 ∙ ap (λ (ls : List Limit). ls ++ here Less high ∷ []) (push_is f made Greater low a.0 a.1)
          ∙ append_assoc made (here Greater low ∷ []) (here Less high ∷ [])

  pub own_are : (made : List Limit) (rows : List NodeRow) (all : List Limit) → own_limits_from bs parts trial made rows ≡ Ok all → all ≡ made ++ span_limits parts (spans_at bs trial rows)
  own_are made [] all e = sym (ok_same made all e) ∙ sym (append-nil made)
  own_are made (r ∷ rs) all e =
      let a = after_ok (ends_walk bs parts trial r.entries made r.low r.high) (λ more. own_limits_from bs parts trial more rs) all e in
      own_are a.0 rs all a.2 ∙ ap (λ (ls : List Limit). ls ++ span_limits parts (spans_at bs trial rs)) (ends_are r.entries made r.low r.high a.0 a.1)
      ∙ append_assoc made (end_limits parts (own_form bs r.entries) (less_end (met bs trial r.entries) r.low) (less_end (met bs trial r.entries) r.high)) (span_limits parts (spans_at bs trial rs))

bound_is : (m : ℕ) (made : List Limit) (low high : Option ℚ) (all : List Limit) → bound_walk m made low high ≡ Ok all → all ≡ made ++ bound_limit m low high
bound_is m made None high all e = sym (ok_same made all e) ∙ sym (append-nil made)
bound_is m made (Some low) None all e = sym (ok_same made all e) ∙ sym (append-nil made)
bound_is m made (Some low) (Some high) all e =
    let a = after_ok (sub_walk high low) (λ width. Ok (made ++ width_limit m width ∷ [])) all e in
    sym (ok_same _ all a.2) ∙ ap (λ (w : ℚ). made ++ width_limit m w ∷ []) (sub_walk_is high low a.0 a.1)

pub bounds_are : (m : ℕ) (made : List Limit) (bs : List ColumnBounds) (all : List Limit) → bound_limits_from m made bs ≡ Ok all → all ≡ made ++ bound_limits m bs
bounds_are m made [] all e = sym (ok_same made all e) ∙ sym (append-nil made)
bounds_are m made (b ∷ bs) all e =
    let a = after_ok (bound_walk m made b.lower b.upper) (λ more. bound_limits_from (behind (part_of m b.lower b.upper)) more bs) all e in
    bounds_are (behind (part_of m b.lower b.upper)) a.0 bs all a.2 ∙ ap (λ (ls : List Limit). ls ++ bound_limits (behind (part_of m b.lower b.upper)) bs) (bound_is m made b.lower b.upper a.0 a.1)
    ∙ append_assoc made (bound_limit m b.lower b.upper) (bound_limits (behind (part_of m b.lower b.upper)) bs)

-- ---- their forms are over the new columns

pub below-append : (n : ℕ) (ls ms : List Limit) → AllBelow n ls → AllBelow n ms → AllBelow n (ls ++ ms)
below-append n [] ms a b = b
below-append n (l ∷ ls) ms a b = (a.0, below-append n ls ms a.1 b)

ends_below : (n : ℕ) (parts : List Part) (f : List Entry) (low high : Option ℚ) → IsFormBelow n (spread_form parts f) → AllBelow n (end_limits parts f low high)
ends_below n parts f None None h = tt
ends_below n parts f (Some low) None h = (h, tt)
ends_below n parts f None (Some high) h = (h, tt)
ends_below n parts f (Some low) (Some high) h = go (same low high)
  where
    go : (b : Bool) → AllBelow n (pick b (limit_of parts f Equal low ∷ []) (limit_of parts f Greater low ∷ limit_of parts f Less high ∷ []))
    go true = (h, tt)
    go false = (h, (h, tt))

spans_below : (parts : List Part) (ss : List Span) → AreParts 0 parts → AreSpans (length parts) ss → AllBelow (behind_all 0 parts) (span_limits parts ss)
spans_below parts [] p a = tt
spans_below parts (s ∷ ss) p a =
    below-append (behind_all 0 parts) (end_limits parts s.entries s.low s.high) (span_limits parts ss)
    (ends_below (behind_all 0 parts) parts s.entries s.low s.high (spread_is_form parts s.entries p a.0.entries)) (spans_below parts ss p a.1)

unit_below : (n m : ℕ) → m < n → IsFormBelow n (entry m one_ℚ ∷ [])
unit_below n m h = record { form = record { rises = (omega arith, tt); nonzero = (ne_of_gt_ℚ zero_lt_one_ℚ, tt) }; below = (h, tt) }

bound_below : (n m : ℕ) (low high : Option ℚ) → behind (part_of m low high) ≤ n → AllBelow n (bound_limit m low high)
bound_below n m None high h = tt
bound_below n m (Some low) None h = tt
bound_below n m (Some low) (Some high) h = (unit_below n m (omega arith), tt)

behind_rises : (m : ℕ) (low high : Option ℚ) → m < behind (part_of m low high)
behind_rises m (Some l) high = omega arith
behind_rises m None (Some u) = omega arith
behind_rises m None None = omega arith

behind_more : (m : ℕ) (bs : List ColumnBounds) → m ≤ behind_all m (parts_from m bs)
behind_more m [] = omega arith
behind_more m (b ∷ bs) =
    let r : m < behind (part_of m b.lower b.upper) = behind_rises m b.lower b.upper in
    let s : behind (part_of m b.lower b.upper) ≤ behind_all (behind (part_of m b.lower b.upper)) (parts_from (behind (part_of m b.lower b.upper)) bs) = behind_more (behind (part_of m b.lower b.upper)) bs in
    omega arith

bounds_below : (n m : ℕ) (bs : List ColumnBounds) → behind_all m (parts_from m bs) ≤ n → AllBelow n (bound_limits m bs)
bounds_below n m [] h = tt
bounds_below n m (b ∷ bs) h =
    let s : behind (part_of m b.lower b.upper) ≤ behind_all (behind (part_of m b.lower b.upper)) (parts_from (behind (part_of m b.lower b.upper)) bs) = behind_more (behind (part_of m b.lower b.upper)) bs in
    below-append n (bound_limit m b.lower b.upper) (bound_limits (behind (part_of m b.lower b.upper)) bs)
    (bound_below n m b.lower b.upper (omega arith)) (bounds_below n (behind (part_of m b.lower b.upper)) bs h)

pub limits_below : (ss : List Span) (bs : List ColumnBounds) → AreParts 0 (parts_from 0 bs) → AreSpans (length (parts_from 0 bs)) ss
    → AllBelow (behind_all 0 (parts_from 0 bs)) (span_limits (parts_from 0 bs) ss ++ bound_limits 0 bs)
limits_below ss bs p a =
    below-append (behind_all 0 (parts_from 0 bs)) (span_limits (parts_from 0 bs) ss) (bound_limits 0 bs) (spans_below (parts_from 0 bs) ss p a) (bounds_below (behind_all 0 (parts_from 0 bs)) 0 bs (omega arith))
