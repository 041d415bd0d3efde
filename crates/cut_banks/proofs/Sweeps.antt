-- The sweeps of a list of dues, one after another.
use Rattle.std.proofs.Common.{◌≡◌, ℕ, zero, suc, ◌+◌, ◌<◌, ◌≤◌, Bool, true, false, ◌&&◌, eqb, List, [], ◌∷◌, length, get_or, drop, refl, sym, ap, ap₂, ◌∙◌, arith}
use Rattle.std.proofs.lemmas.Bool.{eq-eqb, ne_eqb}
use Rattle.std.proofs.lemmas.List.{drop_more, drop_all}
use Rattle.rationals.specs.Choices.{pick}
use Rattle.cut_defs.specs.declared.kinds.Bank.{Bank}
use Rattle.cut_defs.specs.declared.kinds.Bank.TheVariants.{Plain, Cone}
use Rattle.cut_defs.specs.declared.versions.Due.{Due}
use Rattle.cut_pool.specs.Held.{Held}
use Rattle.cut_pool.specs.Pool.{swept}
use Rattle.cut_banks.specs.declared.banks.Banks.{Banks}
use Rattle.cut_banks.specs.Pools.{may_change, with_pool, fitting, swept_for, same_bank, is_due, pool_after, pools_after}
use Rattle.cut_banks.specs.Banks.{swept_banks}

-- no due changes nothing
none_after : (bank : Bank) (n : ℕ) (ps : List Held) → pools_after bank n [] ps ≡ ps
none_after bank n [] = refl
none_after bank n (p ∷ ps) = ap (λ qs. p ∷ qs) (none_after bank (suc n) ps)

swept_for_none : (b : Banks) → swept_banks [] b ≡ b
swept_for_none b = ap₂ (λ ps qs. record { plain = ps; cone = qs }) (none_after Plain 0 b.plain) (none_after Cone 0 b.cone)

-- the first due, and then the others
next_after : (bank : Bank) (n : ℕ) (due : Due) (dues : List Due) (ps : List Held) → pools_after bank n dues (pools_after bank n (due ∷ []) ps) ≡ pools_after bank n (due ∷ dues) ps
next_after bank n due dues [] = refl
next_after bank n due dues (p ∷ ps) = ap (λ qs. pool_after bank n dues (pick (is_due bank n due) (swept_for due p) p) ∷ qs) (next_after bank (suc n) due dues ps)

swept_next : (due : Due) (dues : List Due) (b c : Banks) → c ≡ swept_banks (due ∷ []) b → swept_banks dues c ≡ swept_banks (due ∷ dues) b
swept_next due dues b c e =
    ap (swept_banks dues) e ∙ ap₂ (λ ps qs. record { plain = ps; cone = qs }) (next_after Plain 0 due dues b.plain) (next_after Cone 0 due dues b.cone)

pub swept_step : (all : List Due) (i : ℕ) (d : Due) (b c : Banks) → i < length all → d ≡ get_or all i d → c ≡ swept_banks (d ∷ []) b
    → swept_banks (drop (i + 1) all) c ≡ swept_banks (drop i all) b
swept_step all i d b c h is e =
    swept_next d (drop (i + 1) all) b c e ∙ ap (λ ds. swept_banks ds b) (ap (λ x. x ∷ drop (i + 1) all) is ∙ sym (drop_more all i d h))

pub swept_done : (all : List Due) (i : ℕ) (b c : Banks) → length all ≤ i → swept_banks (drop i all) c ≡ b → c ≡ b
swept_done all i b c h e = sym (ap (λ ds. swept_banks ds c) (drop_all i all h) ∙ swept_for_none c) ∙ e

-- ---- one due changes one pool
-- the pool of the due stands before these
passed : (bank : Bank) (n : ℕ) (due : Due) (ps : List Held) → due.pool < n → pools_after bank n (due ∷ []) ps ≡ ps
passed bank n due [] h = refl
passed bank n due (p ∷ ps) h =
    ap₂ (λ b qs. pick (same_bank bank due.bank && b) (swept_for due p) p ∷ qs) (ne_eqb due.pool n (λ e. omega (arith, h, e))) (passed bank (suc n) due ps (omega (arith, h)))
    ∙ go (same_bank bank due.bank)
  where
    go : (b : Bool) → pick (b && false) (swept_for due p) p ∷ ps ≡ p ∷ ps
    go true = refl
    go false = refl

-- the due is of the other bank
other_bank : (bank : Bank) (n : ℕ) (due : Due) (ps : List Held) → same_bank bank due.bank ≡ false → pools_after bank n (due ∷ []) ps ≡ ps
other_bank bank n due [] e = refl
other_bank bank n due (p ∷ ps) e = ap₂ (λ b qs. pick (b && eqb due.pool n) (swept_for due p) p ∷ qs) e (other_bank bank (suc n) due ps e)

-- the due is of this bank, and its pool the k-th of these
one_swept : (bank : Bank) (n k : ℕ) (due : Due) (ps : List Held) → same_bank bank due.bank ≡ true → due.pool ≡ n + k → pools_after bank n (due ∷ []) ps ≡ with_pool may_change (swept_for due) k ps
one_swept bank n k due [] e h = refl
one_swept bank n zero due (p ∷ ps) e h =
    ap₂ (λ a b. pick (a && b) (swept_for due p) p ∷ pools_after bank (suc n) (due ∷ []) ps) e (eq-eqb due.pool n (omega (arith, h)))
    ∙ ap₂ (λ x qs. x ∷ qs) (go (may_change p) refl) (passed bank (suc n) due ps (omega (arith, h)))
  where
    go : (b : Bool) → may_change p ≡ b → swept_for due p ≡ pick b (swept_for due p) p
    go true t = refl
    go false t = ap (λ b. pick b (swept p due.touch (fitting due.touch due.shift)) p) t
one_swept bank n (suc k) due (p ∷ ps) e h =
    ap₂ (λ a b. pick (a && b) (swept_for due p) p ∷ pools_after bank (suc n) (due ∷ []) ps) e (ne_eqb due.pool n (λ q. omega (arith, h, q)))
    ∙ ap (λ qs. p ∷ qs) (one_swept bank (suc n) k due ps e (omega (arith, h)))

pub sweeps_plain : (due : Due) (b : Banks) (ps : List Held) → due.bank ≡ Plain → ps ≡ with_pool may_change (swept_for due) due.pool b.plain → record b { plain = ps } ≡ swept_banks (due ∷ []) b
sweeps_plain due b ps d e =
    ap₂ (λ xs ys. record { plain = xs; cone = ys })
    (e ∙ sym (one_swept Plain 0 due.pool due b.plain (ap (same_bank Plain) d) (omega arith)))
    (sym (other_bank Cone 0 due b.cone (ap (same_bank Cone) d)))

pub sweeps_cone : (due : Due) (b : Banks) (ps : List Held) → due.bank ≡ Cone → ps ≡ with_pool may_change (swept_for due) due.pool b.cone → record b { cone = ps } ≡ swept_banks (due ∷ []) b
sweeps_cone due b ps d e =
    ap₂ (λ xs ys. record { plain = xs; cone = ys })
    (sym (other_bank Plain 0 due b.plain (ap (same_bank Plain) d)))
    (e ∙ sym (one_swept Cone 0 due.pool due b.cone (ap (same_bank Cone) d) (omega arith)))
