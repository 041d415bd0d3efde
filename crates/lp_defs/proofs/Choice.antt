-- What the ratio test chooses, and how properties go along a path.
use Rattle.std.proofs.Common.{◌≡◌, ℕ, zero, suc, ◌<◌, ◌≤◌, ◌+◌, ◌||◌, Bool, true, false, List, [], ◌∷◌, ◌++◌, Option, Some, None, Ok, Err, length, ltb, refl, sym, ap, ◌∙◌, subst, arith, length-append}
use Rattle.std.proofs.lemmas.List.{append-nil, append_assoc}
use Rattle.std.proofs.lemmas.Bool.{false≢true, ltb-true, ltb-false}
use Rattle.rationals.specs.Rational.{ℚ, zero_ℚ, ◌/ℚ◌, ◌≤ℚ◌, ◌<ℚ◌, le_trans_ℚ, le_of_same_ℚ, lt_le_ℚ, not_le_of_lt_ℚ}
use Rattle.lp_defs.specs.Tests.{is_above_zero, is_above_zero_true, is_above_zero_false, compare_is}
use Rattle.rationals.specs.Order.{compare}
use Rattle.rationals.specs.Forms.{by_order}
use Rattle.std.specs.declared.cmp.Ordering.{Ordering}
use Rattle.std.specs.declared.cmp.Ordering.TheVariants.{Less, Equal, Greater}
use Rattle.std.specs.Ordering.{MatchOrdering}
use Rattle.lp_defs.specs.Walks.{Walk, after_ok, div_walk_is}
use Rattle.rationals.specs.Passes.{then_walk, div_walk}
use Rattle.lp_defs.specs.Path.{Candidate}
use Rattle.lp_defs.specs.Lines.{Line, value_at}
use Rattle.lp_defs.specs.Path.{Row, Tableau, Done, Open, Stopped, row_at, leaving, choose, is_better, has_above_zero, entering, pivoted, path, with_choice, with_value, at_limit}
use Rattle.lp_defs.specs.Linear.{AllLines, AllRows}
use Rattle.lp_defs.specs.Ends.{IsChosen, NoneAbove, IsChoice, EndsWell}
use Rattle.lp_defs.proofs.Rows.{all_join}

-- ---- rows of a longer list
row_left : (a b : List Row) (i : ℕ) → i < length a → row_at (a ++ b) i ≡ row_at a i
row_left [] b i h = absurd (omega arith)
row_left (r ∷ a) b zero h = refl
row_left (r ∷ a) b (suc i) h = row_left a b i (omega arith)

row_last : (a : List Row) (r : Row) (i : ℕ) → i ≡ length a → row_at (a ++ r ∷ []) i ≡ r
row_last [] r zero h = refl
row_last [] r (suc i) h = absurd (omega arith)
row_last (x ∷ a) r zero h = absurd (omega arith)
row_last (x ∷ a) r (suc i) h = row_last a r i (omega arith)

pub all_weaker : (P Q : Line → Type 0) (rows : List Row) → ((line : Line) → P line → Q line) → AllLines P rows → AllLines Q rows
all_weaker P Q [] f h = tt
all_weaker P Q (r ∷ rows) f h = (f r.line h.0, all_weaker P Q rows f h.1)

abbrev Bounds : ℕ → ℚ → Line → Type 0
Bounds j q line = zero_ℚ <ℚ value_at line.entries j → q ≤ℚ line.right /ℚ value_at line.entries j

rows_join : (P : Row → Type 0) (a b : List Row) → AllRows P a → AllRows P b → AllRows P (a ++ b)
rows_join P [] b h k = k
rows_join P (r ∷ a) b h k = (h.0, rows_join P a b h.1 k)

-- from what holds of each line and of each row
both_weaker : (P : Line → Type 0) (Q R : Row → Type 0) (rows : List Row) → ((r : Row) → P r.line → Q r → R r) → AllLines P rows → AllRows Q rows → AllRows R rows
both_weaker P Q R [] f h k = tt
both_weaker P Q R (r ∷ rows) f h k = (f r h.0 k.0, both_weaker P Q R rows f h.1 k.1)

all_true : (rows : List Row) → AllRows (λ r. Unit {0}) rows
all_true [] = tt
all_true (r ∷ rows) = (tt, all_true rows)

-- among the rows with a quotient of at most q, column b is the least
abbrev First : ℕ → ℚ → ℕ → Row → Type 0
First j q b r = zero_ℚ <ℚ value_at r.line.entries j → r.line.right /ℚ value_at r.line.entries j ≤ℚ q → b ≤ r.basic

keep_choice : (j : ℕ) (front : List Row) (r : Row) (best : Option Candidate) → value_at r.line.entries j ≤ℚ zero_ℚ → IsChoice j front best → IsChoice j (front ++ r ∷ []) best
keep_choice j front r None h k = all_join (λ line. value_at line.entries j ≤ℚ zero_ℚ) front (r ∷ []) k (h, tt)
keep_choice j front r (Some c) h k =
    let e : row_at (front ++ r ∷ []) c.index ≡ row_at front c.index = row_left front (r ∷ []) c.index k.within in
    record {
      within = let w : c.index < length front = k.within in omega (arith, length-append front (r ∷ []));
      above = subst (λ (x : Row). zero_ℚ <ℚ value_at x.line.entries j) (sym e) k.above;
      ratio = subst (λ (x : Row). c.ratio ≡ x.line.right /ℚ value_at x.line.entries j) (sym e) k.ratio;
      least = all_join (Bounds j c.ratio) front (r ∷ []) k.least ((λ p. absurd (not_le_of_lt_ℚ p h)), tt);
      basic = k.basic ∙ ap (λ (x : Row). x.basic) (sym e);
      first = rows_join (First j c.ratio c.basic) front (r ∷ []) k.first ((λ p m. absurd (not_le_of_lt_ℚ p h)), tt);
    }

new_choice : (j : ℕ) (front : List Row) (r : Row) (c : Candidate) → c.index ≡ length front → zero_ℚ <ℚ value_at r.line.entries j → c.ratio ≡ r.line.right /ℚ value_at r.line.entries j → c.basic ≡ r.basic → AllLines (Bounds j c.ratio) front → AllRows (First j c.ratio c.basic) front → IsChosen j (front ++ r ∷ []) c
new_choice j front r c i h q b k l =
    let e : row_at (front ++ r ∷ []) c.index ≡ r = row_last front r c.index i in
    record {
      within = omega (arith, length-append front (r ∷ []));
      above = subst (λ (x : Row). zero_ℚ <ℚ value_at x.line.entries j) (sym e) h;
      ratio = subst (λ (x : Row). c.ratio ≡ x.line.right /ℚ value_at x.line.entries j) (sym e) q;
      least = all_join (Bounds j c.ratio) front (r ∷ []) k ((λ p. le_of_same_ℚ q), tt);
      basic = b ∙ ap (λ (x : Row). x.basic) (sym e);
      first = rows_join (First j c.ratio c.basic) front (r ∷ []) l ((λ p m. omega arith), tt);
    }

better_le : (c b : Candidate) → is_better c b ≡ true → c.ratio ≤ℚ b.ratio
better_le c b e = go (compare c.ratio b.ratio) (compare_is c.ratio b.ratio (compare c.ratio b.ratio) refl) e
  where
    go : (o : Ordering) → MatchOrdering o (c.ratio <ℚ b.ratio) (c.ratio ≡ b.ratio) (b.ratio <ℚ c.ratio) → by_order o true (ltb c.basic b.basic) false ≡ true → c.ratio ≤ℚ b.ratio
    go Less h e = lt_le_ℚ h
    go Equal h e = le_of_same_ℚ h
    go Greater h e = absurd (false≢true e)

not_better_le : (c b : Candidate) → is_better c b ≡ false → b.ratio ≤ℚ c.ratio
not_better_le c b e = go (compare c.ratio b.ratio) (compare_is c.ratio b.ratio (compare c.ratio b.ratio) refl) e
  where
    go : (o : Ordering) → MatchOrdering o (c.ratio <ℚ b.ratio) (c.ratio ≡ b.ratio) (b.ratio <ℚ c.ratio) → by_order o true (ltb c.basic b.basic) false ≡ false → b.ratio ≤ℚ c.ratio
    go Less h e = absurd (false≢true (sym e))
    go Equal h e = le_of_same_ℚ (sym h)
    go Greater h e = lt_le_ℚ h

-- a better candidate comes before all that the other one came before
better_first : (c b : Candidate) (v : ℚ) (k : ℕ) → is_better c b ≡ true → v ≤ℚ c.ratio → b.ratio ≤ℚ v → (v ≤ℚ b.ratio → b.basic ≤ k) → c.basic ≤ k
better_first c b v k e h l f = go (compare c.ratio b.ratio) (compare_is c.ratio b.ratio (compare c.ratio b.ratio) refl) (ltb c.basic b.basic) refl e
  where
    go : (o : Ordering) → MatchOrdering o (c.ratio <ℚ b.ratio) (c.ratio ≡ b.ratio) (b.ratio <ℚ c.ratio) → (w : Bool) → ltb c.basic b.basic ≡ w → by_order o true w false ≡ true → c.basic ≤ k
    go Less p w r e = absurd (not_le_of_lt_ℚ p (le_trans_ℚ l h))
    go Equal p true r e = let m : b.basic ≤ k = f (le_trans_ℚ h (le_of_same_ℚ p)) in let o : c.basic < b.basic = ltb-true c.basic b.basic r in omega arith
    go Equal p false r e = absurd (false≢true e)
    go Greater p w r e = absurd (false≢true e)

not_better_first : (c b : Candidate) → is_better c b ≡ false → c.ratio ≤ℚ b.ratio → b.basic ≤ c.basic
not_better_first c b e h = go (compare c.ratio b.ratio) (compare_is c.ratio b.ratio (compare c.ratio b.ratio) refl) (ltb c.basic b.basic) refl e
  where
    go : (o : Ordering) → MatchOrdering o (c.ratio <ℚ b.ratio) (c.ratio ≡ b.ratio) (b.ratio <ℚ c.ratio) → (w : Bool) → ltb c.basic b.basic ≡ w → by_order o true w false ≡ false → b.basic ≤ c.basic
    go Less p w r e = absurd (false≢true (sym e))
    go Equal p true r e = absurd (false≢true (sym e))
    go Equal p false r e = ltb-false c.basic b.basic r
    go Greater p w r e = absurd (not_le_of_lt_ℚ p h)

pick : (j : ℕ) (front : List Row) (r : Row) (best : Option Candidate) (c : Candidate) → c.index ≡ length front → zero_ℚ <ℚ value_at r.line.entries j → c.ratio ≡ r.line.right /ℚ value_at r.line.entries j → c.basic ≡ r.basic → IsChoice j front best → IsChoice j (front ++ r ∷ []) (choose best c)
pick j front r None c i h q b k = new_choice j front r c i h q b (all_weaker (λ line. value_at line.entries j ≤ℚ zero_ℚ) (Bounds j c.ratio) front (λ line m p. absurd (not_le_of_lt_ℚ p m)) k)
    (both_weaker (λ line. value_at line.entries j ≤ℚ zero_ℚ) (λ r. Unit {0}) (First j c.ratio c.basic) front (λ r m n p l. absurd (not_le_of_lt_ℚ p m)) k (all_true front))
pick j front r (Some b) c i h q s k = go (is_better c b) refl
  where
    go : (t : Bool) → is_better c b ≡ t → IsChoice j (front ++ r ∷ []) (elim t [ true ↦ Some c | false ↦ Some b ])
    go true e = new_choice j front r c i h q s (all_weaker (Bounds j b.ratio) (Bounds j c.ratio) front (λ line m p. le_trans_ℚ (better_le c b e) (m p)) k.least)
        (both_weaker (Bounds j b.ratio) (First j b.ratio b.basic) (First j c.ratio c.basic) front (λ x m n p l. better_first c b (x.line.right /ℚ value_at x.line.entries j) x.basic e l (m p) (n p)) k.least k.first)
    go false e =
        let e' : row_at (front ++ r ∷ []) b.index ≡ row_at front b.index = row_left front (r ∷ []) b.index k.within in
        record {
          within = let w : b.index < length front = k.within in omega (arith, length-append front (r ∷ []));
          above = subst (λ (x : Row). zero_ℚ <ℚ value_at x.line.entries j) (sym e') k.above;
          ratio = subst (λ (x : Row). b.ratio ≡ x.line.right /ℚ value_at x.line.entries j) (sym e') k.ratio;
          least = all_join (Bounds j b.ratio) front (r ∷ []) k.least ((λ p. le_trans_ℚ (not_better_le c b e) (le_of_same_ℚ q)), tt);
          basic = k.basic ∙ ap (λ (x : Row). x.basic) (sym e');
          first = rows_join (First j b.ratio b.basic) front (r ∷ []) k.first ((λ p m. let z : b.basic ≤ c.basic = not_better_first c b e (le_trans_ℚ (le_of_same_ℚ q) m) in omega arith), tt);
        }

leaving_from : (j : ℕ) (front rows : List Row) (i : ℕ) (best o : Option Candidate) → i ≡ length front → IsChoice j front best → leaving j rows i best ≡ Ok o → IsChoice j (front ++ rows) o
leaving_from j front [] i best o h k e = let m : best ≡ o = cc in subst (λ (l : List Row). IsChoice j l o) (sym (append-nil front)) (subst (IsChoice j front) m k)
leaving_from j front (r ∷ rows) i best o h k e =
    go (is_above_zero (value_at r.line.entries j)) refl e (λ best k. leaving_from j (front ++ r ∷ []) rows (i + 1) best o (omega (arith, length-append front (r ∷ []))) k)
  where
    go : (b : Bool) → is_above_zero (value_at r.line.entries j) ≡ b
        → ◌≡◌ {A = Walk (Option Candidate)} (elim b [ true ↦ then_walk (div_walk r.line.right (value_at r.line.entries j)) (λ q. leaving j rows (i + 1) (choose best (record { index = i; ratio = q; basic = r.basic }))) | false ↦ leaving j rows (i + 1) best ]) (Ok o)
        → ((best : Option Candidate) → IsChoice j (front ++ r ∷ []) best → leaving j rows (i + 1) best ≡ Ok o → IsChoice j ((front ++ r ∷ []) ++ rows) o)
        → IsChoice j (front ++ r ∷ rows) o
    go true p e ih =
        let u = after_ok (div_walk r.line.right (value_at r.line.entries j)) (λ q. leaving j rows (i + 1) (choose best (record { index = i; ratio = q; basic = r.basic }))) o e in
        let c : Candidate = record { index = i; ratio = u.0; basic = r.basic } in
        subst (λ (l : List Row). IsChoice j l o) (append_assoc front (r ∷ []) rows)
        (ih (choose best c) (pick j front r best c h (is_above_zero_true (value_at r.line.entries j) p) (div_walk_is r.line.right (value_at r.line.entries j) u.0 u.1) refl k) u.2)
    go false p e ih =
        subst (λ (l : List Row). IsChoice j l o) (append_assoc front (r ∷ []) rows) (ih best (keep_choice j front r best (is_above_zero_false (value_at r.line.entries j) p) k) e)

-- the ratio test
pub leaving_is : (j : ℕ) (rows : List Row) (o : Option Candidate) → leaving j rows 0 None ≡ Ok o → IsChoice j rows o
leaving_is j rows o e = leaving_from j [] rows 0 None o refl tt e

pub none_above : (j : ℕ) (rows : List Row) → has_above_zero j rows ≡ false → NoneAbove j rows
none_above j [] e = tt
none_above j (r ∷ rows) e = go (is_above_zero (value_at r.line.entries j)) refl e (none_above j rows)
  where
    go : (b : Bool) → is_above_zero (value_at r.line.entries j) ≡ b → b || has_above_zero j rows ≡ false → (has_above_zero j rows ≡ false → NoneAbove j rows) → NoneAbove j (r ∷ rows)
    go true p e ih = absurd (false≢true (sym e))
    go false p e ih = (is_above_zero_false (value_at r.line.entries j) p, ih e)

-- ---- what each pivot keeps holds at the end
abbrev pub Keeps : (Tableau → Type 0) → ℕ → Type 0
Keeps P n = (t u : Tableau) (j : ℕ) (c : Candidate) → P t → entering n t.objective ≡ Some j → IsChosen j t.rows c → pivoted j c.index t ≡ Ok u → P u

pub path_keeps : (P : Tableau → Type 0) (n : ℕ) → Keeps P n → (left k : ℕ) (t : Tableau) → P t → EndsWell P n (path n left k t)
path_keeps P n f zero k t h = go (entering n t.objective) refl
  where
    last : (j : ℕ) (b : Bool) → entering n t.objective ≡ Some j → has_above_zero j t.rows ≡ b → EndsWell P n (at_limit j t b)
    last j true e m = tt
    last j false e m = (h, e, none_above j t.rows m)

    go : (o : Option ℕ) → entering n t.objective ≡ o → EndsWell P n (with_choice o (Done k t) (λ j. at_limit j t (has_above_zero j t.rows)))
    go None e = (h, e)
    go (Some j) e = last j (has_above_zero j t.rows) e refl
path_keeps P n f (suc left) k t h = go (entering n t.objective) refl (path_keeps P n f left (k + 1))
  where
    next : (j : ℕ) (c : Candidate) (w : Walk Tableau) → entering n t.objective ≡ Some j → IsChosen j t.rows c → pivoted j c.index t ≡ w → ((u : Tableau) → P u → EndsWell P n (path n left (k + 1) u))
        → EndsWell P n (with_value w (Stopped (k + 1)) (λ u. path n left (k + 1) u))
    next j c (Ok u) e m q ih = ih u (f t u j c h e m q)
    next j c (Err p) e m q ih = tt

    found : (j : ℕ) (o : Option Candidate) → entering n t.objective ≡ Some j → IsChoice j t.rows o → ((u : Tableau) → P u → EndsWell P n (path n left (k + 1) u))
        → EndsWell P n (with_choice o (Open j t) (λ c. with_value (pivoted j c.index t) (Stopped (k + 1)) (λ u. path n left (k + 1) u)))
    found j None e m ih = (h, e, m)
    found j (Some c) e m ih = next j c (pivoted j c.index t) e m refl ih

    leave : (j : ℕ) (w : Walk (Option Candidate)) → entering n t.objective ≡ Some j → leaving j t.rows 0 None ≡ w → ((u : Tableau) → P u → EndsWell P n (path n left (k + 1) u))
        → EndsWell P n (with_value w (Stopped (k + 1)) (λ o. with_choice o (Open j t) (λ c. with_value (pivoted j c.index t) (Stopped (k + 1)) (λ u. path n left (k + 1) u))))
    leave j (Ok o) e m ih = found j o e (leaving_is j t.rows o m) ih
    leave j (Err p) e m ih = tt

    go : (o : Option ℕ) → entering n t.objective ≡ o → ((u : Tableau) → P u → EndsWell P n (path n left (k + 1) u))
        → EndsWell P n (with_choice o (Done k t) (λ j. with_value (leaving j t.rows 0 None) (Stopped (k + 1)) (λ o. with_choice o (Open j t) (λ c. with_value (pivoted j c.index t) (Stopped (k + 1)) (λ u. path n left (k + 1) u)))))
    go None e ih = (h, e)
    go (Some j) e ih = leave j (leaving j t.rows 0 None) e refl ih
