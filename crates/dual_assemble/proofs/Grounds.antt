-- A ground cut is made from its datum.
use Rattle.std.proofs.Common.{◌≡◌, ℕ, suc, ◌<◌, ◌≤◌, Bool, true, false, ◌||◌, ◌&&◌, eqb, List, [], ◌∷◌, ◌++◌, map, Some, Ok, refl, sym, ap, ap₂, subst, ◌∙◌, arith}
use Rattle.std.proofs.lemmas.Bool.{eq-eqb, ne_eqb}
use Rattle.rationals.specs.declared.Op.TheVariants.{Div}
use Rattle.rationals.specs.Rational.{ℚ, zero_ℚ, one_ℚ, ◌+ℚ◌, ◌/ℚ◌, ◌<ℚ◌, by_eqs, terms, zero_add_ℚ, add_zero_ℚ}
use Rattle.rationals.specs.Ring.Eqs.{done, by_eq}
use Rattle.rationals.specs.Sparse.{Entry, coefficient, value_if}
use Rattle.rationals.specs.Forms.{put, put_unless, is_zero}
use Rattle.rationals.specs.Passes.{div_walk}
use Rattle.rationals.proofs.WalkLaws.{walk_value, ended}
use Rattle.scen_defs.specs.declared.program.NodeRow.{NodeRow}
use Rattle.scen_defs.specs.Lists.{Each, is_in}
use Rattle.scen_defs.specs.Values.{At, at}
use Rattle.scen_defs.proofs.ValueLaws.{each-push}
use Rattle.cut_defs.specs.declared.datum.Share.{Share}
use Rattle.cut_defs.specs.declared.kinds.CutKind.TheVariants.{Bound}
use Rattle.cut_defs.specs.Cuts.{is_bound}
use Rattle.cut_defs.specs.Data.{Datum, RowsRise, SharesRise, IsDatum}
use Rattle.cut_defs.specs.Stored.{Source, Stored, StoredUses, source_of, uses_of, constant_of, form_of, weight_on, IsMadeFrom}
use Rattle.cut_defs.specs.Stored.StoredUses.{No_stored, Use_stored}
use Rattle.cut_proof.specs.Conditions.{UsesChildren, MayBeMade}
use Rattle.cut_proof.specs.Repairing.{snoc}
use Rattle.cut_sums.specs.Walks.{made}
use Rattle.cut_sums.proofs.FormEnds.{coefficient_append, coefficient_put}
use Rattle.cut_proof.proofs.MadeFrom.{made_parts}
use Rattle.dual_assemble.specs.Ground.{quotients_from, uses_of_children, ground_source, AreOfChildren, IsGroundFrom}

-- ---- a list of rows, or of children, behind a number
weaker : (n m : ℕ) (rs : List NodeRow) → m ≤ n → RowsRise n rs → RowsRise m rs
weaker n m [] h a = tt
weaker n m (r ∷ rs) h a = (omega (arith, a.0), a.1)

less : (n m : ℕ) (ss : List Share) → m ≤ n → SharesRise n ss → SharesRise m ss
less n m [] h a = tt
less n m (s ∷ ss) h a = (omega (arith, a.0), a.1)

-- ---- the quotients
put_other : (f : List Entry) (c j : ℕ) (q : ℚ) → (c ≡ j → ⊥) → coefficient (f ++ put c q []) j ≡ coefficient f j
put_other f c j q h = coefficient_append f (put c q []) j ∙ ap (λ v. coefficient f j +ℚ v) (coefficient_put c q j ∙ ap (λ b. value_if b q) (ne_eqb c j h)) ∙ add_zero_ℚ (coefficient f j)

put_here : (f : List Entry) (c : ℕ) (q : ℚ) → coefficient f c ≡ zero_ℚ → coefficient (f ++ put c q []) c ≡ q
put_here f c q z = coefficient_append f (put c q []) c ∙ ap₂ ◌+ℚ◌ z (coefficient_put c q c ∙ ap (λ b. value_if b q) (eq-eqb c c refl)) ∙ zero_add_ℚ q

module _ (total : ℚ) (y : ℕ → ℚ) where
  -- a row that is passed keeps its multiplier
  kept : (n j : ℕ) (rs : List NodeRow) (f g : List Entry) → j < n → RowsRise n rs → quotients_from total y f rs ≡ Ok g → coefficient g j ≡ coefficient f j
  kept n j [] f g l a e = let d : g ≡ f = cc in ap (λ k. coefficient k j) d
  kept n j (r ∷ rs) f g l a e =
      let one = ended (div_walk (y r.row) total) (λ q. quotients_from total y (f ++ put r.row q []) rs) g e in
      kept (suc r.row) j rs (f ++ put r.row one.result []) g (omega (arith, a.0)) a.1 one.next_is ∙ put_other f r.row j one.result (λ q. absurd (omega (arith, a.0)))

  still_none : (c : ℕ) (q : ℚ) (f : List Entry) (rs : List NodeRow) → RowsRise (suc c) rs → Each (λ (r : NodeRow). coefficient f r.row ≡ zero_ℚ) rs → Each (λ (r : NodeRow). coefficient (f ++ put c q []) r.row ≡ zero_ℚ) rs
  still_none c q f [] a h = tt
  still_none c q f (r ∷ rs) a h = (put_other f c r.row q (λ e. absurd (omega (arith, a.0))) ∙ h.0, still_none c q f rs (weaker (suc r.row) (suc c) rs (omega (arith, a.0)) a.1) h.1)

  quotients : (n : ℕ) (rs : List NodeRow) (f g : List Entry) → RowsRise n rs → Each (λ (r : NodeRow). coefficient f r.row ≡ zero_ℚ) rs → quotients_from total y f rs ≡ Ok g → Each (λ (r : NodeRow). coefficient g r.row ≡ y r.row /ℚ total) rs
  quotients n [] f g a z e = tt
  quotients n (r ∷ rs) f g a z e =
      let one = ended (div_walk (y r.row) total) (λ q. quotients_from total y (f ++ put r.row q []) rs) g e in (
        kept (suc r.row) r.row rs (f ++ put r.row one.result []) g (omega arith) a.1 one.next_is ∙ put_here f r.row one.result z.0 ∙ walk_value Div (y r.row) total one.result one.first_is,
        quotients (suc r.row) rs (f ++ put r.row one.result []) g a.1 (still_none r.row one.result f rs a.1 z.1) one.next_is,
      )

  -- each is of a row
  on : (numbers : List ℕ) (rs : List NodeRow) (f g : List Entry) → Each (λ (r : NodeRow). is_in r.row numbers ≡ true) rs → Each (λ (e : Entry). is_in e.column numbers ≡ true) f → quotients_from total y f rs ≡ Ok g → Each (λ (e : Entry). is_in e.column numbers ≡ true) g
  on numbers [] f g i h e = let d : g ≡ f = cc in subst (Each (λ (t : Entry). is_in t.column numbers ≡ true)) (sym d) h
  on numbers (r ∷ rs) f g i h e =
      let one = ended (div_walk (y r.row) total) (λ q. quotients_from total y (f ++ put r.row q []) rs) g e in
      on numbers rs (f ++ put r.row one.result []) g i.1 (more (is_zero one.result) one.result) one.next_is
    where
      more : (b : Bool) (q : ℚ) → Each (λ (t : Entry). is_in t.column numbers ≡ true) (f ++ put_unless b r.row q [])
      more true q = subst (Each (λ (t : Entry). is_in t.column numbers ≡ true)) (sym (none f)) h
        where
          none : (l : List Entry) → (l ++ []) ≡ l
          none [] = refl
          none (x ∷ l) = ap (λ k. x ∷ k) (none l)
      more false q = each-push (λ (t : Entry). is_in t.column numbers ≡ true) f (record { column = r.row; value = q }) h i.0

-- ---- each member of a list stands in it
or_true : (b : Bool) → (b || true) ≡ true
or_true true = refl
or_true false = refl

module _ {A : Type 0} (number : A → ℕ) where
  still_in : (x : A) (xs ys : List A) → Each (λ y. is_in (number y) (map number xs) ≡ true) ys → Each (λ y. is_in (number y) (map number (x ∷ xs)) ≡ true) ys
  still_in x xs [] h = tt
  still_in x xs (y ∷ ys) h = (ap (λ b. eqb (number x) (number y) || b) h.0 ∙ or_true (eqb (number x) (number y)), still_in x xs ys h.1)

  all_in : (xs : List A) → Each (λ x. is_in (number x) (map number xs) ≡ true) xs
  all_in [] = tt
  all_in (x ∷ xs) = (ap (λ b. b || is_in (number x) (map number xs)) (eq-eqb (number x) (number x) refl), still_in x xs xs (all_in xs))

-- ---- the weights
abbrev one_on : ℚ → Stored → ℕ → ℚ
one_on w c m = value_if (is_bound (source_of c).kind && eqb (source_of c).node m) w

weight_snoc : (us : StoredUses) (w : ℚ) (c : Stored) (m : ℕ) → weight_on (snoc us w c) m ≡ weight_on us m +ℚ one_on w c m
weight_snoc No_stored w c m = add_zero_ℚ (one_on w c m) ∙ sym (zero_add_ℚ (one_on w c m))
weight_snoc (Use_stored v d us) w c m =
    by_eqs (one_on v d m ∷ weight_on us m ∷ one_on w c m ∷ weight_on (snoc us w c) m ∷ []) (by_eq one_ℚ (weight_snoc us w c m) done) (search terms depth 40) tt

module _ (w : ℚ) (c : Stored) (n : ℕ) (node : (source_of c).node ≡ n) (kind : (source_of c).kind ≡ Bound) where
  at_node : (us : StoredUses) → weight_on us n ≡ zero_ℚ → weight_on (snoc us w c) n ≡ w
  at_node us z = weight_snoc us w c n ∙ ap₂ ◌+ℚ◌ z (ap₂ (λ k b. value_if (is_bound k && b) w) kind (eq-eqb (source_of c).node n node)) ∙ zero_add_ℚ w

  elsewhere : (us : StoredUses) (m : ℕ) → (n ≡ m → ⊥) → weight_on (snoc us w c) m ≡ weight_on us m
  elsewhere us m h = weight_snoc us w c m ∙ ap (λ v. weight_on us m +ℚ v) (ap₂ (λ k b. value_if (is_bound k && b) w) kind (ne_eqb (source_of c).node m (λ e. h (sym node ∙ e)))) ∙ add_zero_ℚ (weight_on us m)

weight_kept : (n m : ℕ) (us : StoredUses) (ss : List Share) (cs : List Stored) → m < n → SharesRise n ss → AreOfChildren ss cs → weight_on (uses_of_children us ss cs) m ≡ weight_on us m
weight_kept n m us [] cs l a h = refl
weight_kept n m us (s ∷ ss) [] l a h = absurd h
weight_kept n m us (s ∷ ss) (c ∷ cs) l a h =
    weight_kept (suc s.child) m (snoc us s.share c) ss cs (omega (arith, a.0)) a.1 h.2 ∙ elsewhere s.share c s.child h.0 h.1 us m (λ e. absurd (omega (arith, a.0)))

no_weight : (s : Share) (c : Stored) (us : StoredUses) (ss : List Share) → (source_of c).node ≡ s.child → (source_of c).kind ≡ Bound → SharesRise (suc s.child) ss → Each (λ (t : Share). weight_on us t.child ≡ zero_ℚ) ss → Each (λ (t : Share). weight_on (snoc us s.share c) t.child ≡ zero_ℚ) ss
no_weight s c us [] n k a h = tt
no_weight s c us (t ∷ ss) n k a h = (
  elsewhere s.share c s.child n k us t.child (λ e. absurd (omega (arith, a.0))) ∙ h.0,
  no_weight s c us ss n k (less (suc t.child) (suc s.child) ss (omega (arith, a.0)) a.1) h.1,
)

weights : (n : ℕ) (us : StoredUses) (ss : List Share) (cs : List Stored) → SharesRise n ss → AreOfChildren ss cs → Each (λ (t : Share). weight_on us t.child ≡ zero_ℚ) ss → Each (λ (t : Share). weight_on (uses_of_children us ss cs) t.child ≡ t.share) ss
weights n us [] cs a h z = tt
weights n us (s ∷ ss) [] a h z = absurd h
weights n us (s ∷ ss) (c ∷ cs) a h z = (
  weight_kept (suc s.child) s.child (snoc us s.share c) ss cs (omega arith) a.1 h.2 ∙ at_node s.share c s.child h.0 h.1 us z.0,
  weights (suc s.child) (snoc us s.share c) ss cs a.1 h.2 (no_weight s c us ss h.0 h.1 a.1 z.1),
)

-- ---- each used cut is about a child
children_snoc : (d : Datum) (us : StoredUses) (w : ℚ) (c : Stored) → UsesChildren d us → zero_ℚ <ℚ w → is_in (source_of c).node (map (λ (s : Share). s.child) d.shares) ≡ true → UsesChildren d (snoc us w c)
children_snoc d No_stored w c h p i = (p, (i, tt))
children_snoc d (Use_stored v e us) w c h p i = (h.0, (h.1.0, children_snoc d us w c h.1.1 p i))

children : (d : Datum) (us : StoredUses) (ss : List Share) (cs : List Stored) → UsesChildren d us → Each (λ (s : Share). zero_ℚ <ℚ s.share) ss → Each (λ (s : Share). is_in s.child (map (λ (t : Share). t.child) d.shares) ≡ true) ss → AreOfChildren ss cs → UsesChildren d (uses_of_children us ss cs)
children d us [] cs h p i k = h
children d us (s ∷ ss) [] h p i k = absurd k
children d us (s ∷ ss) (c ∷ cs) h p i k =
    children d (snoc us s.share c) ss cs (children_snoc d us s.share c h p.0 (ap (λ (n : ℕ). is_in n (map (λ (t : Share). t.child) d.shares)) k.0 ∙ i.0)) p.1 i.1 k.2

-- ---- the whole
none_yet : (ss : List Share) → Each (λ (t : Share). weight_on No_stored t.child ≡ zero_ℚ) ss
none_yet [] = tt
none_yet (s ∷ ss) = (refl, none_yet ss)

nothing_yet : (rs : List NodeRow) → Each (λ (r : NodeRow). coefficient [] r.row ≡ zero_ℚ) rs
nothing_yet [] = tt
nothing_yet (r ∷ rs) = (refl, nothing_yet rs)

pub may_be_ground : (d : Datum) (total : ℚ) (dual : List At) (cuts : List Stored) (y : List Entry) (uses : StoredUses) → IsDatum d → AreOfChildren d.shares cuts → quotients_from total (at dual d.node) [] d.rows ≡ Ok y → uses ≡ uses_of_children No_stored d.shares cuts → MayBeMade d (ground_source d y) uses
may_be_ground d total dual cuts y uses i h q u = record {
  node = refl;
  rows_version = refl;
  costs_version = refl;
  on_rows = on total (at dual d.node) (map (λ (r : NodeRow). r.row) d.rows) d.rows [] y (all_in (λ (r : NodeRow). r.row) d.rows) tt q;
  weights = subst (λ (us : StoredUses). Each (λ (s : Share). weight_on us s.child ≡ s.share) d.shares) (sym u) (weights 0 No_stored d.shares cuts i.shares h (none_yet d.shares));
  children = subst (UsesChildren d) (sym u) (children d No_stored d.shares cuts tt i.above (all_in (λ (s : Share). s.child) d.shares) h);
}

pub ground_ends : (d : Datum) (total : ℚ) (dual : List At) (cuts : List Stored) (y : List Entry) (s : Source) (uses : StoredUses) (cut shared : Stored) → IsDatum d → s ≡ ground_source d y → quotients_from total (at dual d.node) [] d.rows ≡ Ok y → uses ≡ uses_of_children No_stored d.shares cuts
    → (MayBeMade d s uses → IsMadeFrom d s uses (constant_of cut) (form_of cut)) → made d s uses ≡ Ok (Some cut) → shared ≡ cut → AreOfChildren d.shares cuts → IsGroundFrom d total dual shared
ground_ends d total dual cuts y s uses cut shared i p q u m e same h =
    let parts = made_parts d s uses cut e in
    let may : MayBeMade d s uses = subst (λ (x : Source). MayBeMade d x uses) (sym p) (may_be_ground d total dual cuts y uses i h q u) in
    subst (IsGroundFrom d total dual) (sym same) (record {
      multipliers = subst (λ (x : Source). Each (λ (r : NodeRow). coefficient x.multipliers r.row ≡ at dual d.node r.row /ℚ total) d.rows) (sym (parts.0 ∙ p)) (quotients total (at dual d.node) 0 d.rows [] y i.rows (nothing_yet d.rows) q);
      made_from = subst (λ (x : Source). IsMadeFrom d x (uses_of cut) (constant_of cut) (form_of cut)) (sym parts.0)
          (subst (λ (us : StoredUses). IsMadeFrom d s us (constant_of cut) (form_of cut)) (sym parts.1) (m may));
    })
