-- Quotients by row are written behind one another.
use Rattle.std.proofs.Common.{◌≡◌, ℕ, zero, suc, ◌+◌, ◌<◌, ◌≤◌, Bool, true, false, List, [], ◌∷◌, ◌++◌, map, length, drop, get_or, Result, Ok, refl, sym, ap, ap₂, subst, ◌∙◌, arith, ℤ, pos}
use Rattle.rationals.specs.declared.Op.TheVariants.{Mul, Div}
use Rattle.rationals.specs.Rational.{ℚ, zero_ℚ, inv_ℚ, inverse_of, ◌÷◌, ◌*ℚ◌, ◌/ℚ◌, mul_zero_ℚ}
use Rattle.rationals.proofs.Lowest.{num_zero}
use Rattle.rationals.proofs.OrderMeaning.{walk_fits, mul_walk_zero}
use Rattle.rationals.specs.Sparse.{Entry}
use Rattle.rationals.specs.Forms.{put}
use Rattle.rationals.specs.Passes.{Operation, answer, too_wide, div_walk, then_walk}
use Rattle.scen_defs.specs.declared.program.NodeRow.{NodeRow}
use Rattle.scen_defs.specs.Lists.{Each}
use Rattle.scen_defs.proofs.NodeReads.{drop_read}
use Rattle.cut_defs.specs.declared.datum.Share.{Share}
use Rattle.cut_defs.specs.Data.{RowsRise}
use Rattle.cut_defs.specs.Stored.{Stored, StoredUses}
use Rattle.cut_proof.specs.declared.cut.Used.{Used}
use Rattle.cut_proof.specs.View.{uses_content}
use Rattle.cut_proof.proofs.RepairLaws.{content_snoc}
use Rattle.cut_sums.proofs.Rising.{AllEndBelow, put_below}
use Rattle.dual_assemble.specs.Ground.{quotients_from, uses_of_children}

-- a form ends below each of the rows
abbrev pub Writable : List NodeRow → List Entry → Type 0
Writable rows f = AllEndBelow (map (λ (r : NodeRow). r.row) rows) f

pub writable_all : (rows : List NodeRow) → Writable rows []
writable_all [] = tt
writable_all (r ∷ rows) = (tt, writable_all rows)

weaker : (n m : ℕ) (rows : List NodeRow) → m ≤ n → RowsRise n rows → RowsRise m rows
weaker n m [] h a = tt
weaker n m (r ∷ rows) h a = (omega (arith, a.0), a.1)

rises_from : (n i : ℕ) (rows : List NodeRow) → RowsRise n rows → RowsRise n (drop i rows)
rises_from n zero rows a = a
rises_from n (suc i) [] a = tt
rises_from n (suc i) (r ∷ rows) a = rises_from n i rows (weaker (suc r.row) n rows (omega (arith, a.0)) a.1)

all_above : (n : ℕ) (rows : List NodeRow) → RowsRise n rows → Each (λ x. n ≤ x) (map (λ (r : NodeRow). r.row) rows)
all_above n [] a = tt
all_above n (r ∷ rows) a = (a.0, all_above n rows (weaker (suc r.row) n rows (omega (arith, a.0)) a.1))

module _ (rows : List NodeRow) (i : ℕ) (r : NodeRow) (h : i < length rows) (e : r ≡ get_or rows i r) where
  here : drop i rows ≡ r ∷ drop (i + 1) rows
  here = drop_read rows i r h e

  -- the next quotient may be written, and then those behind it
  pub row_below : (f : List Entry) → Writable (drop i rows) f → Writable (r ∷ drop (i + 1) rows) f
  row_below f k = subst (λ (l : List NodeRow). Writable l f) here k

  pub next_writable : (q : ℚ) (f all : List Entry) → RowsRise 0 rows → Writable (drop i rows) f → all ≡ f ++ put r.row q [] → Writable (drop (i + 1) rows) all
  next_writable q f all a k w =
      let rest : RowsRise 0 (r ∷ drop (i + 1) rows) = subst (RowsRise 0) here (rises_from 0 i rows a) in
      subst (Writable (drop (i + 1) rows)) (sym w) (put_below r.row q f (map (λ (s : NodeRow). s.row) (drop (i + 1) rows)) (all_above (suc r.row) (drop (i + 1) rows) rest.1) (row_below f k).1)

  pub next_kept : (total : ℚ) (y : ℕ → ℚ) (q : ℚ) (f all : List Entry) (whole : Result (List Entry) Operation) → all ≡ f ++ put r.row q [] → Ok q ≡ div_walk (y r.row) total → quotients_from total y f (drop i rows) ≡ whole → quotients_from total y all (drop (i + 1) rows) ≡ whole
  next_kept total y q f all whole w d k =
      ap (λ g. quotients_from total y g (drop (i + 1) rows)) w
      ∙ ap (λ o. then_walk o (λ p. quotients_from total y (f ++ put r.row p []) (drop (i + 1) rows))) d
      ∙ sym (ap (quotients_from total y f) here) ∙ k

-- ---- a quotient by 0 is 0
narrow : (b : Bool) (o : Operation) (value other : ℚ) → answer b o value ≡ Ok other → b ≡ false
narrow true o value other e = absurd (cc)
narrow false o value other e = refl

zero_is_narrow : too_wide zero_ℚ ≡ false
zero_is_narrow = sym (ap too_wide (mul_zero_ℚ zero_ℚ)) ∙ narrow (too_wide (zero_ℚ *ℚ zero_ℚ)) (record { op = Mul; a = zero_ℚ; b = zero_ℚ }) (zero_ℚ *ℚ zero_ℚ) zero_ℚ (mul_walk_zero zero_ℚ)

inverse_by_num : (num : ℤ) (den : ℕ) → num ≡ pos 0 → inverse_of num den ≡ zero_ℚ
unfolding inverse_of zero_ℚ ◌÷◌
inverse_by_num num den e = ap (λ (n : ℤ). inverse_of n den) e

inverse_zero : inv_ℚ zero_ℚ ≡ zero_ℚ
unfolding inv_ℚ
inverse_zero = inverse_by_num zero_ℚ.num zero_ℚ.den (num_zero zero_ℚ refl)

over_zero : (a : ℚ) → a /ℚ zero_ℚ ≡ zero_ℚ
over_zero a = ap (λ i. a *ℚ i) inverse_zero ∙ mul_zero_ℚ a

pub quotient_by_zero : (a : ℚ) → div_walk a zero_ℚ ≡ Ok zero_ℚ
quotient_by_zero a = walk_fits Div a zero_ℚ (ap too_wide (over_zero a) ∙ zero_is_narrow) ∙ ap Ok (over_zero a)

-- ---- one more used cut
pub shares_next : (shares : List Share) (cuts : List Stored) (i : ℕ) (s : Share) (c d : Stored) (all more : List Used) (whole : StoredUses) → i < length shares → s ≡ get_or shares i s → i < length cuts → c ≡ get_or cuts i c → d ≡ c
    → more ≡ all ++ record { weight = s.share; cut = d } ∷ [] → uses_of_children (uses_content all) (drop i shares) (drop i cuts) ≡ whole → uses_of_children (uses_content more) (drop (i + 1) shares) (drop (i + 1) cuts) ≡ whole
shares_next shares cuts i s c d all more whole h e g f same w k =
    ap (λ l. uses_of_children (uses_content l) (drop (i + 1) shares) (drop (i + 1) cuts)) (w ∙ ap (λ x. all ++ record { weight = s.share; cut = x } ∷ []) same)
    ∙ ap (λ l. uses_of_children l (drop (i + 1) shares) (drop (i + 1) cuts)) (content_snoc all (record { weight = s.share; cut = c }))
    ∙ sym (ap₂ (uses_of_children (uses_content all)) (drop_read shares i s h e) (drop_read cuts i c g f)) ∙ k
