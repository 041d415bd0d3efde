-- What an edit touches: the versions behind it, the places of its touches, and its sweeps.
use Rattle.std.proofs.Common.{◌≡◌, ◌⊎◌, inl, inr, ℕ, zero, suc, ◌+◌, ◌<◌, ◌≤◌, ◌^◌, ◌-◌, Bool, true, false, ◌&&◌, ◌||◌, not, eqb, List, [], ◌∷◌, ◌++◌, length, Option, refl, sym, ap, ap₂, subst, ◌∙◌, arith, eqb-true}
use Rattle.std.proofs.lemmas.Bool.{eq-eqb, ne_eqb, and_parts, or_right}
use Rattle.rationals.specs.Choices.{pick}
use Rattle.scen_defs.specs.Lists.{Each}
use Rattle.scen_defs.specs.Program.{Program, View}
use Rattle.scen_defs.specs.Valid.{Lives, IsProgram}
use Rattle.cut_defs.specs.declared.kinds.Bank.{Bank}
use Rattle.cut_defs.specs.declared.kinds.Bank.TheVariants.{Plain, Cone}
use Rattle.cut_defs.specs.declared.kinds.Part.{Part}
use Rattle.cut_defs.specs.declared.kinds.Part.TheVariants.{Rows, Costs, Gone}
use Rattle.cut_defs.specs.declared.versions.Due.{Due}
use Rattle.cut_defs.specs.declared.versions.Shift.{Shift}
use Rattle.cut_defs.specs.declared.versions.Touch.{Touch}
use Rattle.cut_defs.specs.Support.{IsAmong}
use Rattle.cut_banks.specs.Pools.{same_bank, is_due}
use Rattle.edit_defs.specs.declared.edit.Edit.{Edit}
use Rattle.edit_defs.specs.declared.edit.Touched.{Touched}
use Rattle.edit_defs.specs.After.{after}
use Rattle.edit_defs.specs.Applies.{Applies}
use Rattle.edit_defs.specs.Data.{one_if}
use Rattle.edit_defs.specs.Touches.{is_rows, is_costs, is_gone, any_touch, touches, touches_rows, touches_costs, touches_whole}
use Rattle.edit_defs.proofs.Books.{was-live}
use Rattle.edit_defs.proofs.Gone.{gone_are_dropped}
use Rattle.edit_defs.proofs.Lists.{each-append}
use Rattle.edit_retire.specs.Dues.{is_gone_in, carried, due_at, dues_up, dues_in, dues_from}
use Rattle.node_data.specs.declared.versions.Version.{Version}
use Rattle.node_data.specs.Counts.{version_of}
use Rattle.pass_core.specs.Versions.{with_next, next_touch, next_touches, next_versions}
use Rattle.nested_method.specs.Edited.{is_grown, touches_of, raised_versions}
use Rattle.nested_method.specs.Laws.{standing}
use Rattle.nested_method.proofs.Counting.{rises, rows_here, costs_here, fitted}
use Rattle.nested_method.proofs.Standing.{IsApart, apart, more, touches_stand}
use Rattle.kept_cut_laws.specs.Kept.{IsNoNewer, IsOldNews}

-- ---- members of a list of touches
pub each_among : (P : Touch → Type 0) (ts : List Touch) (t : Touch) → IsAmong t ts → Each P ts → P t
each_among P [] t a h = absurd a
each_among P (u ∷ ts) t (inl e) h = subst P e h.0
each_among P (u ∷ ts) t (inr a) h = each_among P ts t a h.1

pub all_among : (P : Touch → Type 0) (ts : List Touch) → ((t : Touch) → IsAmong t ts → P t) → Each P ts
all_among P [] f = tt
all_among P (t ∷ ts) f = (f t (inl refl), all_among P ts (λ u a. f u (inr a)))

-- ---- the touches of places
-- a touch of a node that passes a test, where a place does
pub record FindsTouch (test : Part → Bool) (n : ℕ) (ts : List Touch) : Type 0 where
  pub touch : Touch
  pub among : IsAmong touch ts
  pub node : touch.node ≡ n
  pub passes : test touch.part ≡ true

pub found_touch : (test : Part → Bool) (n : ℕ) (ts : List Touched) (vs : List Version) → any_touch test n ts ≡ true
    → FindsTouch test n (next_touches ts vs)
found_touch test n [] vs e = absurd (cc)
found_touch test n (t ∷ ts) vs e = go (eqb t.node n && test t.part) refl e (found_touch test n ts (with_next t.part t.node vs))
  where
    go : (b : Bool) → (eqb t.node n && test t.part) ≡ b → (b || any_touch test n ts) ≡ true
        → (any_touch test n ts ≡ true → FindsTouch test n (next_touches ts (with_next t.part t.node vs))) → FindsTouch test n (next_touches (t ∷ ts) vs)
    go true q e rest =
        let parts = and_parts (eqb t.node n) (test t.part) q in
        record { touch = next_touch t vs; among = inl refl; node = eqb-true t.node n parts.0; passes = parts.1 }
    go false q e rest = let f = rest e in record { touch = f.touch; among = inr f.among; node = f.node; passes = f.passes }

-- and the other way round
pub told_touch : (test : Part → Bool) (ts : List Touched) (vs : List Version) (t : Touch) → IsAmong t (next_touches ts vs) → test t.part ≡ true
    → any_touch test t.node ts ≡ true
told_touch test [] vs t a h = absurd a
told_touch test (u ∷ ts) vs t (inl e) h =
    ap₂ (λ x y. x && y || any_touch test t.node ts) (eq-eqb u.node t.node (ap (λ (x : Touch). x.node) e)) (ap (λ (x : Touch). test x.part) e ∙ h)
told_touch test (u ∷ ts) vs t (inr a) h = or_right (eqb u.node t.node && test u.part) (any_touch test t.node ts) (told_touch test ts (with_next u.part u.node vs) t a h)

pub gone_as_told : (n : ℕ) (ts : List Touched) (vs : List Version) → is_gone_in n (next_touches ts vs) ≡ any_touch is_gone n ts
gone_as_told n [] vs = refl
gone_as_told n (t ∷ ts) vs = ap (λ b. eqb t.node n && is_gone t.part || b) (gone_as_told n ts (with_next t.part t.node vs))

places_below : (count : ℕ) (ts : List Touched) (vs : List Version) → IsApart count ts → Each (λ (t : Touch). t.node < count) (next_touches ts vs)
places_below count [] vs h = tt
places_below count (t ∷ ts) vs h = (h.0, places_below count ts (with_next t.part t.node vs) h.2)

-- ---- an edit
module _ (p : Program) (e : Edit) (versions : List Version) (i : IsProgram p) (a : Applies p e) (long : length p.nodes ≤ length versions) where
  far : IsApart (length versions) (touches p e)
  far = more (length p.nodes) (length versions) (touches p e) long (apart p e i a)

  pub touched_places : Each (λ (t : Touch). t.node < length p.nodes) (touches_of p e versions)
  touched_places = places_below (length p.nodes) (touches p e) versions (apart p e i a)

  -- the versions behind the edit
  pub rows_behind : (n : ℕ) → (version_of versions n).rows < 2 ^ 32 - 1
      → (version_of (raised_versions p e versions) n).rows ≡ one_if (touches_rows p e n) + (version_of versions n).rows
  rows_behind n less = ap (λ (v : Version). v.rows) (fitted (is_grown e) (after p e).nodes (next_versions (touches p e) versions) n)
      ∙ rises is_rows (λ v. v.rows) rows_here n (touches p e) versions far (omega (arith, less))

  pub costs_behind : (n : ℕ) → (version_of versions n).costs < 2 ^ 32 - 1
      → (version_of (raised_versions p e versions) n).costs ≡ one_if (touches_costs p e n) + (version_of versions n).costs
  costs_behind n less = ap (λ (v : Version). v.costs) (fitted (is_grown e) (after p e).nodes (next_versions (touches p e) versions) n)
      ∙ rises is_costs (λ v. v.costs) costs_here n (touches p e) versions far (omega (arith, less))

  -- a node that the edit doesn't say is gone stays live, and one that it says is gone isn't live behind it
  pub stays_live : (n : ℕ) → Lives p n → touches_whole p e n ≡ false → Lives (after p e) n
  stays_live n l h = gone_are_dropped p e n i a l ∙ ap not h

  pub is_left : (n : ℕ) → n < length p.nodes → Lives (after p e) n → touches_whole p e n ≡ false
  is_left n less l = go (touches_whole p e n) (sym l ∙ gone_are_dropped p e n i a (was-live p e n less l))
    where
      go : (b : Bool) → true ≡ not b → b ≡ false
      go true h = absurd (let no : true ≡ false = h in cc)
      go false h = refl

  -- each touch of the edit is old news behind it
  pub touches_are_old : (t : Touch) → IsAmong t (touches_of p e versions) → IsOldNews (after p e) (raised_versions p e versions) t
  touches_are_old t among l = go t.part refl
    where
      carries : t.version ≡ standing t.part t.node (raised_versions p e versions)
      carries = each_among (λ u. u.version ≡ standing u.part u.node (raised_versions p e versions)) (touches_of p e versions) t among (touches_stand p e versions i a long)

      go : (part : Part) → t.part ≡ part → IsNoNewer part t.version (version_of (raised_versions p e versions) t.node)
      go Rows q = let same : t.version ≡ (version_of (raised_versions p e versions) t.node).rows = carries ∙ ap (λ (x : Part). standing x t.node (raised_versions p e versions)) q in omega (arith, same)
      go Costs q = let same : t.version ≡ (version_of (raised_versions p e versions) t.node).costs = carries ∙ ap (λ (x : Part). standing x t.node (raised_versions p e versions)) q in omega (arith, same)
      go Gone q =
          let told : touches_whole p e t.node ≡ true = told_touch is_gone (touches p e) versions t among (ap is_gone q) in
          let place : t.node < length p.nodes = each_among (λ (u : Touch). u.node < length p.nodes) (touches_of p e versions) t among touched_places in
          absurd (let no : true ≡ false = sym told ∙ is_left t.node place l in cc)

-- ---- the sweeps
-- what holds of the sweep of each pool for each touch holds of all
module _ (P : Due → Type 0) (v : View) (all : List Touch) (shift : Option Shift) where
  due_there : (bank : Bank) (t : Touch) (n : ℕ) → P (record { bank = bank; pool = n; touch = t; shift = carried bank t shift })
      → Each P (due_at all bank t shift n)
  due_there bank t n h = go (not (eqb n 0) && not (is_gone_in n all))
    where
      go : (there : Bool) → Each P (pick there (record { bank = bank; pool = n; touch = t; shift = carried bank t shift } ∷ []) [])
      go true = (h, tt)
      go false = tt

  dues_above : (bank : Bank) (t : Touch) → ((n : ℕ) → P (record { bank = bank; pool = n; touch = t; shift = carried bank t shift })) → (k n : ℕ)
      → Each P (dues_up v all bank t shift k n)
  dues_above bank t f zero n = tt
  dues_above bank t f (suc k) n =
      each-append P (due_at all bank t shift n) (dues_up v all bank t shift k (v.parent n)) (due_there bank t n (f n)) (dues_above bank t f k (v.parent n))

  pub each_due : (ts : List Touch)
      → Each (λ (t : Touch). (bank : Bank) (n : ℕ) → P (record { bank = bank; pool = n; touch = t; shift = carried bank t shift })) ts
      → Each P (dues_from v all shift ts)
  each_due [] h = tt
  each_due (t ∷ ts) h =
      each-append P (dues_in v all Plain t shift ++ dues_in v all Cone t shift) (dues_from v all shift ts)
      (each-append P (dues_in v all Plain t shift) (dues_in v all Cone t shift)
      (dues_above Plain t (h.0 Plain) (suc (v.stage t.node)) t.node) (dues_above Cone t (h.0 Cone) (suc (v.stage t.node)) t.node))
      (each_due ts h.1)

-- the pool of node n in the bank is swept for the touch
abbrev pub IsSweptFor : Bank → ℕ → Touch → List Due → Type 0
IsSweptFor bank n t [] = ⊥
IsSweptFor bank n t (due ∷ dues) = ((is_due bank n due ≡ true) × (due.touch ≡ t)) ⊎ IsSweptFor bank n t dues

swept_left : (bank : Bank) (n : ℕ) (t : Touch) (xs ys : List Due) → IsSweptFor bank n t xs → IsSweptFor bank n t (xs ++ ys)
swept_left bank n t [] ys h = absurd h
swept_left bank n t (x ∷ xs) ys (inl h) = inl h
swept_left bank n t (x ∷ xs) ys (inr h) = inr (swept_left bank n t xs ys h)

swept_right : (bank : Bank) (n : ℕ) (t : Touch) (xs ys : List Due) → IsSweptFor bank n t ys → IsSweptFor bank n t (xs ++ ys)
swept_right bank n t [] ys h = h
swept_right bank n t (x ∷ xs) ys h = inr (swept_right bank n t xs ys h)

-- so many nodes upwards
abbrev pub upwards : View → ℕ → ℕ → ℕ
upwards v zero m = m
upwards v (suc k) m = upwards v k (v.parent m)

-- node m is n or stands below it
pub record IsUnder (v : View) (n m : ℕ) : Type 0 where
  pub steps : ℕ
  pub reach : upwards v steps m ≡ n
  pub stage : v.stage m ≡ steps + v.stage n

same_itself : (bank : Bank) → same_bank bank bank ≡ true
same_itself Plain = refl
same_itself Cone = refl

module _ (v : View) (all : List Touch) (bank : Bank) (t : Touch) (shift : Option Shift) (n : ℕ) (above : n ≡ 0 → ⊥) (left : is_gone_in n all ≡ false) where
  swept_there : (m : ℕ) → m ≡ n → IsSweptFor bank n t (due_at all bank t shift m)
  swept_there m e = subst (λ b. IsSweptFor bank n t (pick b (record { bank = bank; pool = m; touch = t; shift = carried bank t shift } ∷ []) [])) (sym passes)
      (inl (ap₂ ◌&&◌ (same_itself bank) (eq-eqb m n e), refl))
    where
      passes : (not (eqb m 0) && not (is_gone_in m all)) ≡ true
      passes = ap₂ (λ x y. not x && not y) (ne_eqb m 0 (λ z. above (sym e ∙ z))) (ap (λ k. is_gone_in k all) e ∙ left)

  swept_upwards : (k steps m : ℕ) → steps < k → upwards v steps m ≡ n → IsSweptFor bank n t (dues_up v all bank t shift k m)
  swept_upwards zero steps m l e = absurd (omega (arith, l))
  swept_upwards (suc k) zero m l e = swept_left bank n t (due_at all bank t shift m) (dues_up v all bank t shift k (v.parent m)) (swept_there m e)
  swept_upwards (suc k) (suc steps) m l e =
      swept_right bank n t (due_at all bank t shift m) (dues_up v all bank t shift k (v.parent m)) (swept_upwards k steps (v.parent m) (omega (arith, l)) e)

  swept_in : IsUnder v n t.node → IsSweptFor bank n t (dues_in v all bank t shift)
  swept_in u = swept_upwards (suc (v.stage t.node)) u.steps t.node (let s : v.stage t.node ≡ u.steps + v.stage n = u.stage in omega (arith, s)) u.reach

-- each pool above a touch is swept for it, but that of the root and of a node that is gone
pub swept_for_touch : (v : View) (all : List Touch) (bank : Bank) (shift : Option Shift) (n : ℕ) → (n ≡ 0 → ⊥) → is_gone_in n all ≡ false
    → (ts : List Touch) (t : Touch) → IsAmong t ts → IsUnder v n t.node → IsSweptFor bank n t (dues_from v all shift ts)
swept_for_touch v all bank shift n above left [] t a u = absurd a
swept_for_touch v all bank shift n above left (x ∷ ts) t (inl e) u =
    swept_left bank n t (dues_in v all Plain x shift ++ dues_in v all Cone x shift) (dues_from v all shift ts)
    (subst (λ (y : Touch). IsSweptFor bank n t (dues_in v all Plain y shift ++ dues_in v all Cone y shift)) (sym e) (go bank))
  where
    go : (bank : Bank) → IsSweptFor bank n t (dues_in v all Plain t shift ++ dues_in v all Cone t shift)
    go Plain = swept_left Plain n t (dues_in v all Plain t shift) (dues_in v all Cone t shift) (swept_in v all Plain t shift n above left u)
    go Cone = swept_right Cone n t (dues_in v all Plain t shift) (dues_in v all Cone t shift) (swept_in v all Cone t shift n above left u)
swept_for_touch v all bank shift n above left (x ∷ ts) t (inr a) u =
    swept_right bank n t (dues_in v all Plain x shift ++ dues_in v all Cone x shift) (dues_from v all shift ts)
    (swept_for_touch v all bank shift n above left ts t a u)
