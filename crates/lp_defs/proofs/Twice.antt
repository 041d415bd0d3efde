-- No basis stands twice.
use Rattle.std.proofs.Common.{◌≡◌, ℕ, zero, suc, Option, None, Err, ◌<◌, ◌≤◌, ◌⊎◌, inl, inr, ⊎_elim, ◌++◌, Bool, true, false, List, [], ◌∷◌, Some, Ok, eqb, ltb, refl, sym, ap, ◌∙◌, subst, arith, eqb-true, take, drop}
use Rattle.std.specs.List.{remove, insert}
use Rattle.std.proofs.lemmas.Bool.{ne_eqb, eqb-false, ltb-true, ltb-false}
use Rattle.std.proofs.lemmas.List.{take-append-drop}
use Rattle.rationals.specs.Rational.{ℚ, zero_ℚ, one_ℚ, ◌+ℚ◌, ◌*ℚ◌, neg_ℚ, inv_ℚ, ◌≤ℚ◌, ◌<ℚ◌, by_ring, by_eqs, terms, le_of_same_ℚ, le_trans_ℚ, mul_nonneg_ℚ, inv_nonneg_ℚ, not_le_of_lt_ℚ, div_mul_ℚ, ne_of_gt_ℚ}
use Rattle.rationals.specs.Ring.Eqs.{done, by_eq}
use Rattle.rationals.specs.Sparse.{Entry, value_if, product}
use Rattle.lp_defs.specs.Path.{Candidate}
use Rattle.lp_defs.specs.Lines.{Line, value_at}
use Rattle.lp_defs.specs.Path.{Row, Tableau, entering, leaving, pivoted, row_at}
use Rattle.lp_defs.specs.Linear.{AllLines, AllRows, IsTied}
use Rattle.lp_defs.specs.Ends.{IsChosen, unit}
use Rattle.lp_defs.specs.Basis.{IsUnits, IsBasic, point}
use Rattle.lp_defs.specs.Trace.{NotIn, Stage, IsStep, Leads, NoBasisTwice, NoBasisTwiceOnPath, add_stage, stage_found, stage_enters, stages}
use Rattle.lp_defs.proofs.Rows.{Each, Pivots, pivots, all_uninsert, put_back}
use Rattle.lp_defs.specs.Walks.{Walk}
use Rattle.lp_defs.proofs.Choice.{leaving_is}
use Rattle.lp_defs.proofs.Best.{tied_keeps}
use Rattle.lp_defs.proofs.Basic.{value_is, entering_below, basic_keeps, rows_insert, rows_uninsert, units_uninsert}
use Rattle.lp_defs.proofs.Rays.{entering_falls}
use Rattle.lp_defs.proofs.Bland.{Fickle, no_such_pair}
use Rattle.lp_defs.proofs.Cycle.{apart_from, point_zero, same_basis, Falls, pivot_falls}

-- ---- which columns are basic before and after a pivot
each_out : (j c : ℕ) (pivot : Line) (rows new : List Row) → Each j pivot rows new → NotIn c rows → NotIn c new
each_out j c pivot [] [] e h = tt
each_out j c pivot [] (m ∷ ms) e h = absurd e
each_out j c pivot (r ∷ rs) [] e h = absurd e
each_out j c pivot (r ∷ rs) (m ∷ ms) e h = ((λ k. h.0 (sym e.0 ∙ k)), each_out j c pivot rs ms e.2 h.1)

each_was_out : (j c : ℕ) (pivot : Line) (rows new : List Row) → Each j pivot rows new → NotIn c new → NotIn c rows
each_was_out j c pivot [] [] e h = tt
each_was_out j c pivot [] (m ∷ ms) e h = absurd e
each_was_out j c pivot (r ∷ rs) [] e h = absurd e
each_was_out j c pivot (r ∷ rs) (m ∷ ms) e h = ((λ k. h.0 (e.0 ∙ k)), each_was_out j c pivot rs ms e.2 h.1)

-- a column that is basic has no reduced cost
cost_apart : (f : List Entry) (s : ℕ) (rows : List Row) → product f (unit s) <ℚ zero_ℚ → AllRows (λ r. product f (unit r.basic) ≡ zero_ℚ) rows → NotIn s rows
cost_apart f s [] d h = tt
cost_apart f s (r ∷ rows) d h = ((λ e. not_le_of_lt_ℚ d (le_of_same_ℚ (sym (ap (λ (b : ℕ). product f (unit b)) (sym e) ∙ h.0)))), cost_apart f s rows d h.1)

pub record IsMove (g : Stage) : Type 0 where
  pub enters_in : NotIn g.enters g.to.rows → ⊥
  pub stays_out : (c : ℕ) → NotIn c g.from.rows → (c ≡ g.enters → ⊥) → NotIn c g.to.rows
  pub left_out : NotIn g.leaves.basic g.to.rows
  pub was_out : (c : ℕ) → NotIn c g.to.rows → (c ≡ g.leaves.basic → ⊥) → NotIn c g.from.rows
  pub enters_out : NotIn g.enters g.from.rows
  pub left_in : NotIn g.leaves.basic g.from.rows → ⊥

pub moves : (n : ℕ) (g : Stage) → IsBasic g.from → IsStep n g → IsMove g
moves n g b s =
    let i : ℕ = g.leaves.index in
    let j : ℕ = g.enters in
    let p : Pivots j i g.from g.to = pivots j i g.from g.to s.pivot in
    let r : Row = row_at g.from.rows i in
    let others : List Row = remove g.from.rows i in
    let new : Row = record { basic = j; line = p.pivot } in
    let back : insert others i r ≡ g.from.rows = put_back g.from.rows i s.leave.within in
    let units : IsUnits (r ∷ others) = units_uninsert others i r (subst IsUnits (sym back) b.units) in
    let down : product g.from.objective (unit j) <ℚ zero_ℚ = subst (λ (v : ℚ). v <ℚ zero_ℚ) (sym (value_is 0 j g.from.objective b.objective_rises)) (entering_falls n 0 j g.from.objective b.objective_rises s.enter) in
    let out : NotIn j g.from.rows = cost_apart g.from.objective j g.from.rows down b.priced in
    let split : (c : ℕ) → NotIn c g.from.rows → NotIn c others × (r.basic ≡ c → ⊥) = λ c h. rows_uninsert (λ x. x.basic ≡ c → ⊥) others i r (subst (NotIn c) (sym back) h) in
    let others_out : NotIn g.leaves.basic others = subst (λ (k : ℕ). NotIn k others) (sym s.leave.basic) (apart_from r others units.0 units.1) in
    record {
      enters_in = λ h. (rows_uninsert (λ x. x.basic ≡ j → ⊥) p.others i new (subst (NotIn j) p.rows h)).1 refl;
      stays_out = λ c h ne. subst (NotIn c) (sym p.rows) (rows_insert (λ x. x.basic ≡ c → ⊥) p.others i new (each_out j c p.pivot others p.others p.each (split c h).0) (λ e. ne (sym e)));
      left_out = subst (NotIn g.leaves.basic) (sym p.rows) (rows_insert (λ x. x.basic ≡ g.leaves.basic → ⊥) p.others i new (each_out j g.leaves.basic p.pivot others p.others p.each others_out) (λ e. (split j out).1 (sym s.leave.basic ∙ sym e)));
      was_out = λ c h ne. subst (NotIn c) back (rows_insert (λ x. x.basic ≡ c → ⊥) others i r (each_was_out j c p.pivot others p.others p.each (rows_uninsert (λ x. x.basic ≡ c → ⊥) p.others i new (subst (NotIn c) p.rows h)).0) (λ e. ne (sym e ∙ sym s.leave.basic)));
      enters_out = out;
      left_in = λ h. (split g.leaves.basic h).1 (sym s.leave.basic);
    }

-- the row of the leaving column is the chosen one
own_row : (n : ℕ) (g : Stage) → IsBasic g.from → IsStep n g → AllRows (λ r. r.basic ≡ g.leaves.basic → zero_ℚ <ℚ value_at r.line.entries g.enters) g.from.rows
own_row n g b s =
    let i : ℕ = g.leaves.index in
    let r : Row = row_at g.from.rows i in
    let others : List Row = remove g.from.rows i in
    let back : insert others i r ≡ g.from.rows = put_back g.from.rows i s.leave.within in
    let units : IsUnits (r ∷ others) = units_uninsert others i r (subst IsUnits (sym back) b.units) in
    let out : NotIn g.leaves.basic others = subst (λ (k : ℕ). NotIn k others) (sym s.leave.basic) (apart_from r others units.0 units.1) in
    subst (AllRows (λ r. r.basic ≡ g.leaves.basic → zero_ℚ <ℚ value_at r.line.entries g.enters)) back
    (rows_insert (λ r. r.basic ≡ g.leaves.basic → zero_ℚ <ℚ value_at r.line.entries g.enters) others i r (vacuous others out) (λ e. s.leave.above))
  where
    vacuous : (rows : List Row) → NotIn g.leaves.basic rows → AllRows (λ r. r.basic ≡ g.leaves.basic → zero_ℚ <ℚ value_at r.line.entries g.enters) rows
    vacuous [] h = tt
    vacuous (x ∷ rows) h = ((λ e. absurd (h.0 e)), vacuous rows h.1)

-- ---- a pivot of quotient 0 keeps the point
point_join : (a b : List Row) (c : ℕ) → point (a ++ b) c ≡ point a c +ℚ point b c
point_join [] b c = by_ring (point b c ∷ []) (search terms depth 40) tt
point_join (r ∷ a) b c = by_eqs (r.line.right ∷ unit r.basic c ∷ point a c ∷ point b c ∷ point (a ++ b) c ∷ []) (by_eq one_ℚ (point_join a b c) done) (search terms depth 40) tt

point_insert : (rows : List Row) (i : ℕ) (r : Row) (c : ℕ) → point (insert rows i r) c ≡ r.line.right *ℚ unit r.basic c +ℚ point rows c
point_insert rows i r c =
    let e : point rows c ≡ point (take i rows) c +ℚ point (drop i rows) c = ap (λ (l : List Row). point l c) (sym (take-append-drop i rows)) ∙ point_join (take i rows) (drop i rows) c in
    point_join (take i rows) (r ∷ drop i rows) c
    ∙ by_eqs (r.line.right ∷ unit r.basic c ∷ point rows c ∷ point (take i rows) c ∷ point (drop i rows) c ∷ []) (by_eq (neg_ℚ one_ℚ) e done) (search terms depth 40) tt

each_point : (j : ℕ) (pivot : Line) (rows new : List Row) (c : ℕ) → Each j pivot rows new → pivot.right ≡ zero_ℚ → point new c ≡ point rows c
each_point j pivot [] [] c e z = refl
each_point j pivot [] (m ∷ ms) c e z = absurd e
each_point j pivot (r ∷ rs) [] c e z = absurd e
each_point j pivot (r ∷ rs) (m ∷ ms) c e z =
    subst (λ (b : ℕ). m.line.right *ℚ unit b c +ℚ point ms c ≡ r.line.right *ℚ unit r.basic c +ℚ point rs c) (sym e.0)
    (by_eqs (m.line.right ∷ r.line.right ∷ value_at r.line.entries j ∷ pivot.right ∷ unit r.basic c ∷ point ms c ∷ point rs c ∷ [])
    (by_eq (unit r.basic c) e.1.right (by_eq (neg_ℚ (value_at r.line.entries j *ℚ unit r.basic c)) z (by_eq one_ℚ (each_point j pivot rs ms c e.2 z) done))) (search terms depth 40) tt)

step_point : (n : ℕ) (g : Stage) → IsStep n g → g.leaves.ratio ≡ zero_ℚ → (c : ℕ) → point g.to.rows c ≡ point g.from.rows c
step_point n g s z c =
    let i : ℕ = g.leaves.index in
    let j : ℕ = g.enters in
    let p : Pivots j i g.from g.to = pivots j i g.from g.to s.pivot in
    let r : Row = row_at g.from.rows i in
    let a : ℚ = value_at r.line.entries j in
    let q : p.pivot.right ≡ zero_ℚ = p.scaled.right ∙ by_ring (inv_ℚ a ∷ r.line.right ∷ []) (search terms depth 40) tt ∙ sym s.leave.ratio ∙ z in
    let w : r.line.right ≡ zero_ℚ = sym (div_mul_ℚ r.line.right a (ne_of_gt_ℚ s.leave.above)) ∙ ap (λ (v : ℚ). v *ℚ a) (sym s.leave.ratio ∙ z) ∙ by_ring (a ∷ []) (search terms depth 40) tt in
    let new : Row = record { basic = j; line = p.pivot } in
    let l : point g.to.rows c ≡ p.pivot.right *ℚ unit j c +ℚ point p.others c = ap (λ (l : List Row). point l c) p.rows ∙ point_insert p.others i new c in
    let m : point g.from.rows c ≡ r.line.right *ℚ unit r.basic c +ℚ point (remove g.from.rows i) c = ap (λ (l : List Row). point l c) (sym (put_back g.from.rows i s.leave.within)) ∙ point_insert (remove g.from.rows i) i r c in
    let k : point p.others c ≡ point (remove g.from.rows i) c = each_point j p.pivot (remove g.from.rows i) p.others c p.each q in
    zero_both (point g.to.rows c) (point g.from.rows c) p.pivot.right (unit j c) (point p.others c) r.line.right (unit r.basic c) (point (remove g.from.rows i) c) l m k q w
  where
    zero_both : (x y a b d e f h : ℚ) → x ≡ a *ℚ b +ℚ d → y ≡ e *ℚ f +ℚ h → d ≡ h → a ≡ zero_ℚ → e ≡ zero_ℚ → x ≡ y
    zero_both x y a b d e f h p q r s t = by_eqs (x ∷ y ∷ a ∷ b ∷ d ∷ e ∷ f ∷ h ∷ []) (by_eq one_ℚ p (by_eq (neg_ℚ one_ℚ) q (by_eq one_ℚ r (by_eq b s (by_eq (neg_ℚ f) t done))))) (search terms depth 40) tt

-- a basic column has its row's right side
pub point_at : (rows : List Row) → IsUnits rows → AllRows (λ r. point rows r.basic ≡ r.line.right) rows
point_at [] u = tt
point_at (r ∷ rows) u =
    let out : NotIn r.basic rows = apart_from r rows u.0 u.1 in
    (own (eqb r.basic r.basic) refl out, more rows (point_at rows u.3) out)
  where
    own : (b : Bool) → eqb r.basic r.basic ≡ b → NotIn r.basic rows → r.line.right *ℚ value_if b one_ℚ +ℚ point rows r.basic ≡ r.line.right
    own true e out = by_eqs (r.line.right ∷ point rows r.basic ∷ []) (by_eq one_ℚ (point_zero rows r.basic out) done) (search terms depth 40) tt
    own false e out = absurd (eqb-false r.basic r.basic e refl)

    more : (rest : List Row) → AllRows (λ s. point rows s.basic ≡ s.line.right) rest → NotIn r.basic rest → AllRows (λ s. point (r ∷ rows) s.basic ≡ s.line.right) rest
    more [] h o = tt
    more (s ∷ rest) h o = (rw (ne_eqb s.basic r.basic o.0) (by_eqs (r.line.right ∷ point rows s.basic ∷ s.line.right ∷ []) (by_eq one_ℚ h.0 done) (search terms depth 40) tt), more rest h.1 o.1)

-- ---- lists of stages
abbrev AllOf : (Stage → Type 0) → List Stage → Type 0
AllOf P [] = Unit {0}
AllOf P (g ∷ gs) = P g × AllOf P gs

-- a stage in the list
record Found (P : Stage → Type 0) (gs : List Stage) : Type 1 where
  stage : Stage
  is : P stage
  other : (Q : Stage → Type 0) → AllOf Q gs → Q stage

record Good (n : ℕ) (cost : List Entry) (rows : List Row) (g : Stage) : Type 0 where
  tied : IsTied cost rows g.from
  basic : IsBasic g.from
  step : IsStep n g
  move : IsMove g

record Led (n : ℕ) (cost : List Entry) (rows : List Row) (gs : List Stage) (u : Tableau) : Type 0 where
  good : AllOf (Good n cost rows) gs
  tied : IsTied cost rows u
  basic : IsBasic u

led : (n : ℕ) (cost : List Entry) (rows : List Row) (t u : Tableau) (gs : List Stage) → IsTied cost rows t → IsBasic t → Leads n t gs u → Led n cost rows gs u
led n cost rows t u [] k b l = record { good = tt; tied = subst (IsTied cost rows) l k; basic = subst IsBasic l b }
led n cost rows t u (g ∷ gs) k b l =
    let k' : IsTied cost rows g.from = subst (IsTied cost rows) (sym l.0) k in
    let b' : IsBasic g.from = subst IsBasic (sym l.0) b in
    let s : IsStep n g = l.1 in
    let m : Led n cost rows gs u = led n cost rows g.to u gs (tied_keeps n cost rows g.from g.to g.enters g.leaves k' s.enter s.leave s.pivot) (basic_keeps n g.from g.to g.enters g.leaves b' s.enter s.leave s.pivot) l.2 in
    record { good = (record { tied = k'; basic = b'; step = s; move = moves n g b' s }, m.good); tied = m.tied; basic = m.basic }

-- search by a number
find : (f : Stage → ℕ) (m : ℕ) (gs : List Stage) → Found (λ g. f g ≡ m) gs ⊎ AllOf (λ g. m ≡ f g → ⊥) gs
find f m [] = inr tt
find f m (g ∷ gs) = go (eqb (f g) m) refl (find f m gs)
  where
    go : (b : Bool) → eqb (f g) m ≡ b → Found (λ g. f g ≡ m) gs ⊎ AllOf (λ g. m ≡ f g → ⊥) gs → Found (λ g. f g ≡ m) (g ∷ gs) ⊎ AllOf (λ g. m ≡ f g → ⊥) (g ∷ gs)
    go true e x = inl (record { stage = g; is = eqb-true (f g) m e; other = λ Q h. h.0 })
    go false e (inl w) = inl (record { stage = w.stage; is = w.is; other = λ Q h. w.other Q h.1 })
    go false e (inr w) = inr ((λ k. eqb-false (f g) m e (sym k)), w)

-- the greatest column that enters
record Greatest (gs : List Stage) : Type 1 where
  stage : Stage
  other : (Q : Stage → Type 0) → AllOf Q gs → Q stage
  all : AllOf (λ g. g.enters ≤ stage.enters) gs

weaken : (P Q : Stage → Type 0) (gs : List Stage) → ((g : Stage) → P g → Q g) → AllOf P gs → AllOf Q gs
weaken P Q [] f h = tt
weaken P Q (g ∷ gs) f h = (f g h.0, weaken P Q gs f h.1)

greatest : (g : Stage) (gs : List Stage) → Greatest (g ∷ gs)
greatest g [] = record { stage = g; other = λ Q h. h.0; all = (omega arith, tt) }
greatest g (h ∷ gs) = go (greatest h gs)
  where
    go : Greatest (h ∷ gs) → Greatest (g ∷ h ∷ gs)
    go w = pick (ltb w.stage.enters g.enters) refl
      where
        pick : (b : Bool) → ltb w.stage.enters g.enters ≡ b → Greatest (g ∷ h ∷ gs)
        pick true e = let l : w.stage.enters < g.enters = ltb-true w.stage.enters g.enters e in
            record { stage = g; other = λ Q x. x.0; all = (omega arith, weaken (λ x. x.enters ≤ w.stage.enters) (λ x. x.enters ≤ g.enters) (h ∷ gs) (λ x k. omega arith) w.all) }
        pick false e = record { stage = w.stage; other = λ Q x. w.other Q x.1; all = (ltb-false w.stage.enters g.enters e, w.all) }

-- ---- a column that never enters
out_stays : (n : ℕ) (cost : List Entry) (rows : List Row) (c : ℕ) (t u : Tableau) (gs : List Stage) → AllOf (Good n cost rows) gs → Leads n t gs u → AllOf (λ g. c ≡ g.enters → ⊥) gs → NotIn c t.rows → AllOf (λ g. NotIn c g.from.rows) gs × NotIn c u.rows
out_stays n cost rows c t u [] k l h o = (tt, subst (λ (v : Tableau). NotIn c v.rows) l o)
out_stays n cost rows c t u (g ∷ gs) k l h o =
    let o' : NotIn c g.from.rows = subst (λ (v : Tableau). NotIn c v.rows) (sym l.0) o in
    let m = out_stays n cost rows c g.to u gs k.1 l.2 h.1 (k.0.move.stays_out c o' h.0) in
    ((o', m.0), m.1)

-- and so is out where it has left
out_after : (n : ℕ) (cost : List Entry) (rows : List Row) (c : ℕ) (t u : Tableau) (gs : List Stage) → AllOf (Good n cost rows) gs → Leads n t gs u → AllOf (λ g. c ≡ g.enters → ⊥) gs → (NotIn c u.rows → ⊥) → AllOf (λ g. c ≡ g.leaves.basic → ⊥) gs
out_after n cost rows c t u [] k l h i = tt
out_after n cost rows c t u (g ∷ gs) k l h i =
    ((λ e. i (out_stays n cost rows c g.to u gs k.1 l.2 h.1 (subst (λ (b : ℕ). NotIn b g.to.rows) (sym e) k.0.move.left_out)).1), out_after n cost rows c g.to u gs k.1 l.2 h.1 i)

-- ---- a column that never leaves
in_stays : (n : ℕ) (cost : List Entry) (rows : List Row) (c : ℕ) (t u : Tableau) (gs : List Stage) → AllOf (Good n cost rows) gs → Leads n t gs u → AllOf (λ g. c ≡ g.leaves.basic → ⊥) gs → (NotIn c t.rows → ⊥) → AllOf (λ g. NotIn c g.from.rows → ⊥) gs × (NotIn c u.rows → ⊥)
in_stays n cost rows c t u [] k l h o = (tt, subst (λ (v : Tableau). NotIn c v.rows → ⊥) l o)
in_stays n cost rows c t u (g ∷ gs) k l h o =
    let o' : NotIn c g.from.rows → ⊥ = subst (λ (v : Tableau). NotIn c v.rows → ⊥) (sym l.0) o in
    let m = in_stays n cost rows c g.to u gs k.1 l.2 h.1 (λ x. o' (k.0.move.was_out c x h.0)) in
    ((o', m.0), m.1)

in_after : (n : ℕ) (cost : List Entry) (rows : List Row) (c : ℕ) (t u : Tableau) (gs : List Stage) → AllOf (Good n cost rows) gs → Leads n t gs u → AllOf (λ g. c ≡ g.leaves.basic → ⊥) gs → NotIn c u.rows → AllOf (λ g. c ≡ g.enters → ⊥) gs
in_after n cost rows c t u [] k l h i = tt
in_after n cost rows c t u (g ∷ gs) k l h i =
    ((λ e. (in_stays n cost rows c g.to u gs k.1 l.2 h.1 (λ x. k.0.move.enters_in (subst (λ (b : ℕ). NotIn b g.to.rows) e x))).1 i), in_after n cost rows c g.to u gs k.1 l.2 h.1 i)

-- ---- the quotients are 0
quotient_nonneg : (n : ℕ) (cost : List Entry) (rows : List Row) (g : Stage) → Good n cost rows g → zero_ℚ ≤ℚ g.leaves.ratio
quotient_nonneg n cost rows g k =
    let r : Row = row_at g.from.rows g.leaves.index in
    let f = all_uninsert (λ line. zero_ℚ ≤ℚ line.right) (remove g.from.rows g.leaves.index) g.leaves.index r (subst (AllLines (λ line. zero_ℚ ≤ℚ line.right)) (sym (put_back g.from.rows g.leaves.index k.step.leave.within)) k.basic.feasible) in
    subst (λ (v : ℚ). zero_ℚ ≤ℚ v) (sym k.step.leave.ratio) (mul_nonneg_ℚ r.line.right (inv_ℚ (value_at r.line.entries g.enters)) f.1 (inv_nonneg_ℚ k.step.leave.above))

falls : (n : ℕ) (cost : List Entry) (rows : List Row) (g : Stage) → Good n cost rows g → Falls cost g.from g.to g.leaves
falls n cost rows g k = pivot_falls n g.enters cost rows g.from g.to g.leaves k.tied (tied_keeps n cost rows g.from g.to g.enters g.leaves k.tied k.step.enter k.step.leave k.step.pivot)
    k.basic (basic_keeps n g.from g.to g.enters g.leaves k.basic k.step.enter k.step.leave k.step.pivot) k.step.enter k.step.leave (quotient_nonneg n cost rows g k) k.step.pivot

abbrev cost_of : List Entry → Tableau → ℚ
cost_of cost t = product cost (point t.rows)

all_fall : (n : ℕ) (cost : List Entry) (rows : List Row) (t u : Tableau) (gs : List Stage) → AllOf (Good n cost rows) gs → Leads n t gs u → cost_of cost u ≤ℚ cost_of cost t
all_fall n cost rows t u [] k l = le_of_same_ℚ (ap (cost_of cost) (sym l))
all_fall n cost rows t u (g ∷ gs) k l = le_trans_ℚ (all_fall n cost rows g.to u gs k.1 l.2) (le_trans_ℚ (falls n cost rows g k.0).by_step (le_of_same_ℚ (ap (cost_of cost) l.0)))

all_zero : (n : ℕ) (cost : List Entry) (rows : List Row) (t u : Tableau) (gs : List Stage) → AllOf (Good n cost rows) gs → Leads n t gs u → cost_of cost t ≤ℚ cost_of cost u → AllOf (λ g. g.leaves.ratio ≡ zero_ℚ) gs
all_zero n cost rows t u [] k l h = tt
all_zero n cost rows t u (g ∷ gs) k l h =
    let from : cost_of cost g.from ≤ℚ cost_of cost t = le_of_same_ℚ (ap (cost_of cost) l.0) in
    let rest : cost_of cost u ≤ℚ cost_of cost g.to = all_fall n cost rows g.to u gs k.1 l.2 in
    let s : Falls cost g.from g.to g.leaves = falls n cost rows g k.0 in
    (s.only (le_trans_ℚ from (le_trans_ℚ h rest)), all_zero n cost rows g.to u gs k.1 l.2 (le_trans_ℚ s.by_step (le_trans_ℚ from h)))

same_point : (n : ℕ) (cost : List Entry) (rows : List Row) (t u : Tableau) (gs : List Stage) (c : ℕ) → AllOf (Good n cost rows) gs → Leads n t gs u → AllOf (λ g. g.leaves.ratio ≡ zero_ℚ) gs → AllOf (λ g. point g.from.rows c ≡ point t.rows c) gs
same_point n cost rows t u [] c k l z = tt
same_point n cost rows t u (g ∷ gs) c k l z =
    let e : point g.from.rows c ≡ point t.rows c = ap (λ (v : Tableau). point v.rows c) l.0 in
    let s : point g.to.rows c ≡ point g.from.rows c = step_point n g k.0.step z.0 c in
    (e, weaken (λ x. point x.from.rows c ≡ point g.to.rows c) (λ x. point x.from.rows c ≡ point t.rows c) gs (λ x h. h ∙ s ∙ e) (same_point n cost rows g.to u gs c k.1 l.2 z.1))

-- ---- whether a column is basic
is_out : (c : ℕ) (rows : List Row) → NotIn c rows ⊎ (NotIn c rows → ⊥)
is_out c [] = inl tt
is_out c (r ∷ rows) = go (eqb r.basic c) refl (is_out c rows)
  where
    go : (b : Bool) → eqb r.basic c ≡ b → NotIn c rows ⊎ (NotIn c rows → ⊥) → NotIn c (r ∷ rows) ⊎ (NotIn c (r ∷ rows) → ⊥)
    go true e x = inr (λ h. h.0 (eqb-true r.basic c e))
    go false e (inl x) = inl (eqb-false r.basic c e, x)
    go false e (inr x) = inr (λ h. x h.1)

-- a column that is basic has the reduced cost 0
priced_in : (f : List Entry) (c : ℕ) (rows : List Row) → AllRows (λ r. product f (unit r.basic) ≡ zero_ℚ) rows → (NotIn c rows → ⊥) → product f (unit c) ≡ zero_ℚ
priced_in f c [] h x = absurd (x tt)
priced_in f c (r ∷ rows) h x = go (eqb r.basic c) refl (priced_in f c rows h.1)
  where
    go : (b : Bool) → eqb r.basic c ≡ b → ((NotIn c rows → ⊥) → product f (unit c) ≡ zero_ℚ) → product f (unit c) ≡ zero_ℚ
    go true e ih = subst (λ (k : ℕ). product f (unit k) ≡ zero_ℚ) (eqb-true r.basic c e) h.0
    go false e ih = ih (λ y. x (eqb-false r.basic c e, y))

there : (rows : List Row) → AllRows (λ r. NotIn r.basic rows → ⊥) rows
there rows = go rows (λ c h. h)
  where
    go : (rest : List Row) → ((c : ℕ) → NotIn c rows → NotIn c rest) → AllRows (λ r. NotIn r.basic rows → ⊥) rest
    go [] f = tt
    go (r ∷ rest) f = ((λ h. (f r.basic h).0 refl), go rest (λ c h. (f c h).1))

all_rows : (P Q R : Row → Type 0) (rows : List Row) → ((r : Row) → P r → Q r → R r) → AllRows P rows → AllRows Q rows → AllRows R rows
all_rows P Q R [] f h k = tt
all_rows P Q R (r ∷ rows) f h k = (f r h.0 k.0, all_rows P Q R rows f h.1 k.1)

-- a column that neither enters nor leaves is basic in all or in none
constant : (n : ℕ) (cost : List Entry) (rows : List Row) (c : ℕ) (t u : Tableau) (gs : List Stage) → AllOf (Good n cost rows) gs → Leads n t gs u → AllOf (λ x. c ≡ x.enters → ⊥) gs → AllOf (λ x. c ≡ x.leaves.basic → ⊥) gs
    → (m : ℕ) (v : Found (λ x. x.leaves.basic ≡ m) gs) (w : Greatest gs) → (NotIn c v.stage.from.rows → ⊥) → NotIn c w.stage.from.rows → ⊥
constant n cost rows c t u gs k l e f m v w i o = ⊎_elim
    (λ x. i (v.other (λ x. NotIn c x.from.rows) (out_stays n cost rows c t u gs k l e x).0))
    (λ x. w.other (λ x. NotIn c x.from.rows → ⊥) (in_stays n cost rows c t u gs k l f x).0 o) (is_out c t.rows)

pub no_basis_twice : NoBasisTwice
no_basis_twice cost rows n t u g gs kt bt l same back =
    let all : List Stage = g ∷ gs in
    let w : Led n cost rows all u = led n cost rows t u all kt bt l in
    let top : Greatest all = greatest g gs in
    let m : ℕ = top.stage.enters in
    let dual : Good n cost rows top.stage = top.other (Good n cost rows) w.good in
    -- a column above m never enters, and so never leaves
    let never_enters : (c : ℕ) → m < c → AllOf (λ x. c ≡ x.enters → ⊥) all = λ c h. weaken (λ x. x.enters ≤ m) (λ x. c ≡ x.enters → ⊥) all (λ x k e. absurd (omega arith)) top.all in
    let never_leaves : (c : ℕ) → m < c → AllOf (λ x. c ≡ x.leaves.basic → ⊥) all = λ c h. ⊎_elim
    (λ o. let out : AllOf (λ x. NotIn c x.from.rows) all = (out_stays n cost rows c t u all w.good l (never_enters c h) (back c o)).0 in no_leave c all w.good out)
    (λ i. out_after n cost rows c t u all w.good l (never_enters c h) i) (is_out c u.rows) in
    let zeros : AllOf (λ x. x.leaves.ratio ≡ zero_ℚ) all = all_zero n cost rows t u all w.good l (le_of_same_ℚ (same_basis cost rows n t u kt w.tied bt w.basic same)) in
    ⊎_elim
    (λ (v : Found (λ x. x.leaves.basic ≡ m) all).
    let d : Good n cost rows v.stage = v.other (Good n cost rows) w.good in
    let less : v.stage.enters ≤ m = v.other (λ x. x.enters ≤ m) top.all in
    let differ : v.stage.enters ≡ m → ⊥ = λ e. d.move.left_in (subst (λ (k : ℕ). NotIn k v.stage.from.rows) (e ∙ sym v.is) d.move.enters_out) in
    let f : List Entry = top.stage.from.objective in
    let fickle : AllRows (Fickle m f) v.stage.from.rows =
    all_rows (λ r. NotIn r.basic v.stage.from.rows → ⊥) (λ r. point v.stage.from.rows r.basic ≡ r.line.right) (Fickle m f) v.stage.from.rows
    (λ r i p. ⊎_elim
    (λ o. inr (
      below m r.basic (λ h. constant n cost rows r.basic t u all w.good l (never_enters r.basic h) (never_leaves r.basic h) m v top i o),
      sym p ∙ v.other (λ x. point x.from.rows r.basic ≡ point t.rows r.basic) (same_point n cost rows t u all r.basic w.good l zeros)
          ∙ sym (top.other (λ x. point x.from.rows r.basic ≡ point t.rows r.basic) (same_point n cost rows t u all r.basic w.good l zeros)) ∙ point_zero top.stage.from.rows r.basic o,
    ))
    (λ y. inl (priced_in f r.basic top.stage.from.rows dual.basic.priced y)) (is_out r.basic top.stage.from.rows))
    (there v.stage.from.rows) (point_at v.stage.from.rows d.basic.units) in
    no_such_pair cost rows n v.stage.enters m v.stage.from top.stage.from v.stage.leaves d.tied dual.tied d.basic dual.basic d.step.enter d.step.leave v.is (v.other (λ x. x.leaves.ratio ≡ zero_ℚ) zeros) dual.step.enter
    (omega arith) (entering_below n f m dual.step.enter) fickle
    (subst (λ (k : ℕ). AllRows (λ r. r.basic ≡ k → zero_ℚ <ℚ value_at r.line.entries v.stage.enters) v.stage.from.rows) v.is (own_row n v.stage d.basic d.step)))
    (λ (v : AllOf (λ x. m ≡ x.leaves.basic → ⊥) all). ⊎_elim
    (λ o. top.other (λ x. m ≡ x.enters → ⊥) (in_after n cost rows m t u all w.good l v o) refl)
    (λ i. top.other (λ x. NotIn m x.from.rows → ⊥) (in_stays n cost rows m t u all w.good l v (λ o. i (same m o))).0 dual.move.enters_out)
    (is_out m u.rows))
    (find (λ x. x.leaves.basic) m all)
  where
    no_leave : (c : ℕ) (gs : List Stage) → AllOf (Good n cost rows) gs → AllOf (λ x. NotIn c x.from.rows) gs → AllOf (λ x. c ≡ x.leaves.basic → ⊥) gs
    no_leave c [] k o = tt
    no_leave c (x ∷ gs) k o = ((λ e. k.0.move.left_in (subst (λ (b : ℕ). NotIn b x.from.rows) e o.0)), no_leave c gs k.1 o.1)

    below : (m b : ℕ) → (m < b → ⊥) → b ≤ m
    below m b f = pick (ltb m b) refl
      where
        pick : (t : Bool) → ltb m b ≡ t → b ≤ m
        pick true e = absurd (f (ltb-true m b e))
        pick false e = ltb-false m b e

-- ---- the pivots of a path
record Leading (n : ℕ) (t : Tableau) (gs : List Stage) : Type 0 where
  end : Tableau
  leads : Leads n t gs end

stages_lead : (n left : ℕ) (t : Tableau) → Leading n t (stages n left t)
stages_lead n zero t = record { end = t; leads = refl }
stages_lead n (suc left) t = go (entering n t.objective) refl (stages_lead n left)
  where
    next : (j : ℕ) (c : Candidate) → entering n t.objective ≡ Some j → IsChosen j t.rows c → (w : Walk Tableau) → pivoted j c.index t ≡ w → ((u : Tableau) → Leading n u (stages n left u)) → Leading n t (add_stage t j c w (λ next. stages n left next))
    next j c e m (Ok u) q ih = let r : Leading n u (stages n left u) = ih u in record { end = r.end; leads = (refl, record { enter = e; leave = m; pivot = q }, r.leads) }
    next j c e m (Err p) q ih = record { end = t; leads = refl }

    found : (j : ℕ) → entering n t.objective ≡ Some j → (w : Walk (Option Candidate)) → leaving j t.rows 0 None ≡ w → ((u : Tableau) → Leading n u (stages n left u)) → Leading n t (stage_found w (λ c. add_stage t j c (pivoted j c.index t) (λ next. stages n left next)))
    found j e (Ok (Some c)) q ih = next j c e (leaving_is j t.rows (Some c) q) (pivoted j c.index t) refl ih
    found j e (Ok None) q ih = record { end = t; leads = refl }
    found j e (Err p) q ih = record { end = t; leads = refl }

    go : (o : Option ℕ) → entering n t.objective ≡ o → ((u : Tableau) → Leading n u (stages n left u)) → Leading n t (stage_enters o (λ j. stage_found (leaving j t.rows 0 None) (λ c. add_stage t j c (pivoted j c.index t) (λ next. stages n left next))))
    go None e ih = record { end = t; leads = refl }
    go (Some j) e ih = found j e (leaving j t.rows 0 None) refl ih

-- a part of the pivots
leads_split : (n : ℕ) (t u : Tableau) (a b : List Stage) → Leads n t (a ++ b) u → (v : Tableau) × Leads n t a v × Leads n v b u
leads_split n t u [] b l = (t, refl, l)
leads_split n t u (g ∷ a) b l = let m = leads_split n g.to u a b l.2 in (m.0, (l.0, l.1, m.1), m.2)

leads_first : (n : ℕ) (t u : Tableau) (g : Stage) (gs : List Stage) → Leads n t (g ∷ gs) u → g.from ≡ t
leads_first n t u g gs l = l.0

leads_last : (n : ℕ) (t u : Tableau) (gs : List Stage) (last : Stage) → Leads n t (gs ++ last ∷ []) u → last.to ≡ u
leads_last n t u [] last l = l.2
leads_last n t u (g ∷ gs) last l = leads_last n g.to u gs last l.2

pub no_basis_twice_on_path : NoBasisTwiceOnPath
no_basis_twice_on_path cost rows n left t front back gs g last kt bt e same =
    let s : Leading n t (stages n left t) = stages_lead n left t in
    let l : Leads n t (front ++ (g ∷ gs ++ last ∷ []) ++ back) s.end = subst (λ (x : List Stage). Leads n t x s.end) e s.leads in
    let a = leads_split n t s.end (front ++ (g ∷ gs ++ last ∷ [])) back l in
    let b = leads_split n t a.0 front (g ∷ gs ++ last ∷ []) a.1 in
    let w : Led n cost rows front b.0 = led n cost rows t b.0 front kt bt b.1 in
    let from : g.from ≡ b.0 = b.2.0 in
    let to : last.to ≡ a.0 = leads_last n g.to a.0 gs last b.2.2 in
    no_basis_twice cost rows n b.0 a.0 g (gs ++ last ∷ []) w.tied w.basic b.2
    (λ c h. subst (λ (x : Tableau). NotIn c x.rows) to ((same c).0 (subst (λ (x : Tableau). NotIn c x.rows) (sym from) h)))
    (λ c h. subst (λ (x : Tableau). NotIn c x.rows) from ((same c).1 (subst (λ (x : Tableau). NotIn c x.rows) (sym to) h)))
