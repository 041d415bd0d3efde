-- What sweeps leave of the cuts of a pool, and of what it knows.
use Rattle.std.proofs.Common.{◌≡◌, inl, inr, ℕ, ◌+◌, ◌<◌, ◌≤◌, Bool, true, false, ◌&&◌, eqb, ltb, List, [], ◌∷◌, length, Option, Some, None, Result, Ok, Err, refl, sym, ap, subst, ◌∙◌, arith, eqb-true}
use Rattle.std.proofs.lemmas.Bool.{and_parts, lt-ltb}
use Rattle.rationals.specs.Passes.{Operation, then_walk}
use Rattle.rationals.specs.Choices.{pick}
use Rattle.scen_defs.specs.Lists.{Each}
use Rattle.cut_defs.specs.declared.kinds.Bank.{Bank}
use Rattle.cut_defs.specs.declared.kinds.Part.{Part}
use Rattle.cut_defs.specs.declared.kinds.Part.TheVariants.{Rows, Costs, Gone}
use Rattle.cut_defs.specs.declared.versions.Due.{Due}
use Rattle.cut_defs.specs.declared.versions.Shift.{Shift}
use Rattle.cut_defs.specs.declared.versions.Touch.{Touch}
use Rattle.cut_defs.specs.Repairs.{is_moved, moved_source, repair, repairs}
use Rattle.cut_defs.specs.Stored.{Source, Stored, StoredUses, source_of}
use Rattle.cut_defs.specs.Stored.Stored.{Stored_of}
use Rattle.cut_defs.specs.Stored.StoredUses.{No_stored, Use_stored}
use Rattle.cut_defs.specs.Support.{rank, cut_rests, RestsOnNone}
use Rattle.cut_proof.specs.Repairing.{touch_of, repair_walk, shifted_walk}
use Rattle.cut_proof.proofs.RepairLaws.{repairs_are_exact}
use Rattle.cut_pool.specs.Held.{Held}
use Rattle.cut_pool.specs.Pool.{fits_shift, swept, kept_of, or_none, repair_of, repaired_on, ShiftFits}
use Rattle.cut_pool.proofs.Fresh.{each_pushed, swept_parts}
use Rattle.cut_banks.specs.Pools.{may_change, fitting, swept_for, is_due, pool_after}
use Rattle.kept_cut_laws.specs.Kept.{EachRecord, EachUsed}
use Rattle.kept_cut_laws.proofs.Touched.{IsSweptFor}

-- ---- a repair
moved_node : (s : Shift) (source : Source) → (moved_source s source).node ≡ source.node
moved_node s source = go (is_moved s source)
  where
    go : (b : Bool) → (let x : Source = elim b [ true ↦ record source { rows_version = s.version } | false ↦ source ] in x.node) ≡ source.node
    go true = refl
    go false = refl

pub repaired_node : (s : Shift) (cut : Stored) → (source_of (repair s cut)).node ≡ (source_of cut).node
repaired_node s (Stored_of source uses constant form) = moved_node s source

-- what the moved records keep is kept
mutual
  pub each_repaired : (Has : Source → Type 0) (s : Shift) → ((source : Source) → Has source → Has (moved_source s source)) → (cut : Stored) → EachRecord Has cut
      → EachRecord Has (repair s cut)
  each_repaired Has s f (Stored_of source uses constant form) h = (f source h.0, uses_repaired Has s f uses h.1)

  uses_repaired : (Has : Source → Type 0) (s : Shift) → ((source : Source) → Has source → Has (moved_source s source)) → (uses : StoredUses) → EachUsed Has uses
      → EachUsed Has (repairs s uses)
  uses_repaired Has s f No_stored h = tt
  uses_repaired Has s f (Use_stored w cut uses) h = (each_repaired Has s f cut h.0, uses_repaired Has s f uses h.1)

-- a repair that a sweep makes is the repair
repair_is : (s : Shift) (c r : Stored) → or_none (shifted_walk s c) ≡ Some r → r ≡ repair s c
repair_is s c r e = go (cut_rests c _) e
  where
    by_walk : (w : Result Stored Operation) → or_none (then_walk w (λ x. Ok (Some x))) ≡ Some r → w ≡ Ok r
    by_walk (Ok x) e = let q : x ≡ r = cc in ap Ok q
    by_walk (Err p) e = absurd (cc)

    go : (b : Bool) → or_none (pick b (Ok None) (then_walk (repair_walk s c) (λ x. Ok (Some x)))) ≡ Some r → r ≡ repair s c
    go true e = absurd (cc)
    go false e = repairs_are_exact.repairs s c r (by_walk (repair_walk s c) e)

-- ---- one sweep
-- what each repair keeps holds of the cuts that are left
kept_each : (P : Stored → Type 0) (t : Touch) (shift : Option Shift) → ((s : Shift) (c : Stored) → shift ≡ Some s → P c → P (repair s c)) → (cs : List Stored) → Each P cs
    → Each P (kept_of t shift cs)
kept_each P t shift f [] h = tt
kept_each P t shift f (c ∷ cs) h = go (cut_rests c t) (kept_each P t shift f cs h.1)
  where
    replaced : (o : Option Shift) → shift ≡ o → (rest : List Stored) → Each P rest → Each P (repaired_on (repair_of o c) rest)
    replaced None q rest ih = ih
    replaced (Some s) q rest ih = by_repair (or_none (shifted_walk s c)) refl
      where
        by_repair : (o : Option Stored) → or_none (shifted_walk s c) ≡ o → Each P (repaired_on o rest)
        by_repair None e = ih
        by_repair (Some r) e = (subst P (sym (repair_is s c r e)) (f s c q h.0), ih)

    go : (b : Bool) → Each P (kept_of t shift cs) → Each P (pick b (repaired_on (repair_of shift c) (kept_of t shift cs)) (c ∷ kept_of t shift cs))
    go true ih = replaced shift refl (kept_of t shift cs) ih
    go false ih = (h.0, ih)

-- a shift that fits is of the touch
rank_rows : (part : Part) → eqb (rank part) 0 ≡ true → part ≡ Rows
rank_rows Rows e = refl
rank_rows Costs e = absurd (let no : false ≡ true = e in cc)
rank_rows Gone e = absurd (let no : false ≡ true = e in cc)

fits_means : (t : Touch) (s : Shift) → fits_shift t s ≡ true → t ≡ touch_of s
fits_means t s e =
    let a = and_parts (eqb t.node s.node) (eqb (rank t.part) 0 && eqb t.version s.version) e in
    let b = and_parts (eqb (rank t.part) 0) (eqb t.version s.version) a.1 in
    same t.node s.node t.part t.version s.version (eqb-true t.node s.node a.0) (rank_rows t.part b.0) (eqb-true t.version s.version b.1)
  where
    same : (n m : ℕ) (part : Part) (v w : ℕ) → n ≡ m → part ≡ Rows → v ≡ w
        → (let x : Touch = record { node = n; part = part; version = v } in x) ≡ record { node = m; part = Rows; version = w }
    same n m part v w a b c = cc

pub fitting_is : (t : Touch) (shift : Option Shift) (s : Shift) → fitting t shift ≡ Some s → (shift ≡ Some s) × (t ≡ touch_of s)
fitting_is t None s e = absurd (cc)
fitting_is t (Some x) s e = go (ltb 0 x.version && fits_shift t x) refl e
  where
    go : (b : Bool) → (ltb 0 x.version && fits_shift t x) ≡ b → pick b (Some x) None ≡ Some s → (Some x ≡ Some s) × (t ≡ touch_of s)
    go true q e =
        let same : x ≡ s = cc in
        (e, fits_means t x (and_parts (ltb 0 x.version) (fits_shift t x) q).1 ∙ ap touch_of same)
    go false q e = absurd (cc)

fitting_fits : (t : Touch) (shift : Option Shift) → ShiftFits t (fitting t shift)
fitting_fits t shift = go (fitting t shift) refl
  where
    go : (o : Option Shift) → fitting t shift ≡ o → ShiftFits t o
    go None e = tt
    go (Some s) e = (fitting_is t shift s e).1

-- ---- what one sweep keeps
-- what each repair by its shift keeps holds of the cuts
pub sweep_keeps : (P : Stored → Type 0) (due : Due) (pool : Held) → ((s : Shift) (c : Stored) → fitting due.touch due.shift ≡ Some s → P c → P (repair s c))
    → Each P pool.cuts → Each P (swept_for due pool).cuts
sweep_keeps P due pool f h = go (may_change pool)
  where
    go : (may : Bool) → Each P (let x : Held = pick may (swept pool due.touch (fitting due.touch due.shift)) pool in x.cuts)
    go true = kept_each P due.touch (fitting due.touch due.shift) f pool.cuts h
    go false = h

pub sweep_knows : (P : Touch → Type 0) (due : Due) (pool : Held) → P due.touch → Each P pool.known → Each P (swept_for due pool).known
sweep_knows P due pool t h = go (may_change pool)
  where
    go : (may : Bool) → Each P (let x : Held = pick may (swept pool due.touch (fitting due.touch due.shift)) pool in x.known)
    go true = each_pushed P pool.known due.touch h t
    go false = h

pub sweep_stays : (n : ℕ) (due : Due) (pool : Held) → pool.node ≡ n → (swept_for due pool).node ≡ n
sweep_stays n due pool h = go (may_change pool)
  where
    go : (may : Bool) → (let x : Held = pick may (swept pool due.touch (fitting due.touch due.shift)) pool in x.node) ≡ n
    go true = h
    go false = h

pub sweep_empties : (due : Due) (pool : Held) → pool.cuts ≡ [] → (swept_for due pool).cuts ≡ []
sweep_empties due pool h = go (may_change pool)
  where
    go : (may : Bool) → (let x : Held = pick may (swept pool due.touch (fitting due.touch due.shift)) pool in x.cuts) ≡ []
    go true = ap (kept_of due.touch (fitting due.touch due.shift)) h
    go false = h

sweep_counts : (due : Due) (pool : Held) → (swept_for due pool).number ≤ pool.number + 1
sweep_counts due pool = go (may_change pool)
  where
    go : (may : Bool) → (let x : Held = pick may (swept pool due.touch (fitting due.touch due.shift)) pool in x.number) ≤ pool.number + 1
    go true = omega arith
    go false = omega arith

-- ---- all sweeps
-- what each sweep of the pool keeps
pub after_each : (Q : Held → Type 0) (bank : Bank) (n : ℕ) (dues : List Due)
    → Each (λ (due : Due). is_due bank n due ≡ true → (pool : Held) → Q pool → Q (swept_for due pool)) dues → (pool : Held) → Q pool → Q (pool_after bank n dues pool)
after_each Q bank n [] h pool q = q
after_each Q bank n (due ∷ dues) h pool q = after_each Q bank n dues h.1 (pick (is_due bank n due) (swept_for due pool) pool) (go (is_due bank n due) refl)
  where
    go : (b : Bool) → is_due bank n due ≡ b → Q (pick b (swept_for due pool) pool)
    go true e = h.0 e pool q
    go false e = q

pub after_counts : (bank : Bank) (n : ℕ) (dues : List Due) (pool : Held) → (pool_after bank n dues pool).number ≤ pool.number + length dues
after_counts bank n [] pool = omega arith
after_counts bank n (due ∷ dues) pool =
    let rest : (pool_after bank n dues (pick (is_due bank n due) (swept_for due pool) pool)).number ≤ (pick (is_due bank n due) (swept_for due pool) pool).number + length dues =
    after_counts bank n dues (pick (is_due bank n due) (swept_for due pool) pool) in
    let one : (pick (is_due bank n due) (swept_for due pool) pool).number ≤ pool.number + 1 = go (is_due bank n due) in
    omega (arith, rest, one)
  where
    go : (b : Bool) → (let x : Held = pick b (swept_for due pool) pool in x.number) ≤ pool.number + 1
    go true = sweep_counts due pool
    go false = omega arith

-- ---- a touch that is swept for
-- no cut of the pool rests on it
abbrev pub NoneRests : Touch → Held → Type 0
NoneRests t pool = Each (λ c. cut_rests c t ≡ false) pool.cuts

-- cuts that don't rest on a touch don't rest on it behind a sweep
none_still : (t : Touch) (due : Due) (pool : Held) → NoneRests t pool → NoneRests t (swept_for due pool)
none_still t due pool h = sweep_keeps (λ c. cut_rests c t ≡ false) due pool (λ s c e n. still s c n) h
  where
    still : (s : Shift) (c : Stored) → cut_rests c t ≡ false → cut_rests (repair s c) t ≡ false
    still s c n = go (cut_rests (repair s c) t) refl
      where
        go : (b : Bool) → cut_rests (repair s c) t ≡ b → cut_rests (repair s c) t ≡ false
        go false e = e
        go true e = absurd (let no : true ≡ false = sym (repairs_are_exact.rests s c t e) ∙ n in cc)

-- behind the sweep for the touch none does
none_behind : (due : Due) (pool : Held) → pool.number < 18446744073709551615 → NoneRests due.touch (swept_for due pool)
none_behind due pool less = subst (λ b. NoneRests due.touch (pick b (swept pool due.touch (fitting due.touch due.shift)) pool)) (sym (lt-ltb pool.number 18446744073709551615 less))
    (first (kept_of due.touch (fitting due.touch due.shift) pool.cuts)
    (swept_parts pool.node 0 [] (due.touch ∷ []) pool.cuts pool.cuts (kept_of due.touch (fitting due.touch due.shift) pool.cuts) due.touch (fitting due.touch due.shift)
    (fitting_fits due.touch due.shift) (no_touch pool.cuts) refl refl refl).fresh)
  where
    no_touch : (cs : List Stored) → Each (λ c. RestsOnNone c []) cs
    no_touch [] = tt
    no_touch (c ∷ cs) = (tt, no_touch cs)

    first : (cs : List Stored) → Each (λ c. RestsOnNone c (due.touch ∷ [])) cs → Each (λ c. cut_rests c due.touch ≡ false) cs
    first [] h = tt
    first (c ∷ cs) h = (h.0.0, first cs h.1)

all_still : (t : Touch) (bank : Bank) (n : ℕ) (dues : List Due) → Each (λ (due : Due). is_due bank n due ≡ true → (pool : Held) → NoneRests t pool → NoneRests t (swept_for due pool)) dues
all_still t bank n [] = tt
all_still t bank n (due ∷ dues) = ((λ e pool h. none_still t due pool h), all_still t bank n dues)

-- so none does behind all sweeps, where one of them is for the touch
pub none_rests : (t : Touch) (bank : Bank) (n : ℕ) (dues : List Due) (pool : Held) → IsSweptFor bank n t dues → pool.number + length dues < 18446744073709551615
    → NoneRests t (pool_after bank n dues pool)
none_rests t bank n [] pool h less = absurd h
none_rests t bank n (due ∷ dues) pool (inl h) less =
    after_each (NoneRests t) bank n dues (all_still t bank n dues) (pick (is_due bank n due) (swept_for due pool) pool)
    (subst (λ b. NoneRests t (pick b (swept_for due pool) pool)) (sym h.0) (subst (λ (x : Touch). NoneRests x (swept_for due pool)) h.1 (none_behind due pool (omega (arith, less)))))
none_rests t bank n (due ∷ dues) pool (inr h) less =
    none_rests t bank n dues (pick (is_due bank n due) (swept_for due pool) pool) h
    (let one : (pick (is_due bank n due) (swept_for due pool) pool).number ≤ pool.number + 1 = go (is_due bank n due) in omega (arith, one, less))
  where
    go : (b : Bool) → (let x : Held = pick b (swept_for due pool) pool in x.number) ≤ pool.number + 1
    go true = sweep_counts due pool
    go false = omega arith
