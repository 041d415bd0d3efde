-- The numbers of both sets, by place, and behind a change.
use Rattle.std.proofs.Common.{◌≡◌, ℕ, zero, suc, ◌<◌, ◌⊎◌, inl, inr, Bool, true, false, ◌||◌, List, [], ◌∷◌, length, get_or, replicate, ◌+◌, Option, Some, None, MatchOption, arith, refl, sym, ap, ◌∙◌, get_or-set_other}
use Rattle.std.proofs.Math.ListN.{set, length-set}
use Rattle.std.proofs.lemmas.Bool.{cases_eq, false≢true}
use Rattle.std.proofs.lemmas.List.{length-replicate}
use Rattle.pass_table.specs.Machine.{ComesBefore}
use Rattle.pass_table.specs.Marks.{HasNone, IsLeast}
use Rattle.pass_table.specs.Readings.{Adds}
use Rattle.pass_table.specs.Rounds.{Round, flag_in, either, IsSplit, IsFirst}
use Rattle.pass_table.proofs.Begins.{flag_on, flag_was, flag_off, off_at}

or_false : (b : Bool) → (b || false) ≡ b
or_false true = refl
or_false false = refl

or_true : (b : Bool) → (b || true) ≡ true
or_true true = refl
or_true false = refl

or_swap : (b c : Bool) → (b || c) ≡ (c || b)
or_swap true true = refl
or_swap true false = refl
or_swap false true = refl
or_swap false false = refl

pub either_at : (cs bs : List Bool) (n : ℕ) → length bs ≡ length cs → get_or (either cs bs) n false ≡ (get_or cs n false || get_or bs n false)
unfolding either
either_at [] [] n e = refl
either_at [] (b ∷ bs) n e = absurd (omega (arith, e))
either_at (a ∷ cs) [] n e = absurd (omega (arith, e))
either_at (a ∷ cs) (b ∷ bs) zero e = refl
either_at (a ∷ cs) (b ∷ bs) (suc n) e = either_at cs bs n (omega (arith, e))

pub either_long : (cs bs : List Bool) → length bs ≡ length cs → length (either cs bs) ≡ length cs
unfolding either
either_long [] [] e = refl
either_long [] (b ∷ bs) e = absurd (omega (arith, e))
either_long (a ∷ cs) [] e = absurd (omega (arith, e))
either_long (a ∷ cs) (b ∷ bs) e = ap suc (either_long cs bs (omega (arith, e)))

pub either_first : (cs bs : List Bool) (n : ℕ) → length bs ≡ length cs → either (set cs n true) bs ≡ set (either cs bs) n true
unfolding either
either_first [] [] n e = refl
either_first [] (b ∷ bs) n e = absurd (omega (arith, e))
either_first (a ∷ cs) [] n e = absurd (omega (arith, e))
either_first (a ∷ cs) (b ∷ bs) zero e = refl
either_first (a ∷ cs) (b ∷ bs) (suc n) e = ap (λ t. (a || b) ∷ t) (either_first cs bs n (omega (arith, e)))

pub either_second : (cs bs : List Bool) (n : ℕ) → length bs ≡ length cs → either cs (set bs n true) ≡ set (either cs bs) n true
unfolding either
either_second [] [] n e = refl
either_second [] (b ∷ bs) n e = absurd (omega (arith, e))
either_second (a ∷ cs) [] n e = absurd (omega (arith, e))
either_second (a ∷ cs) (b ∷ bs) zero e = ap (λ x. x ∷ either cs bs) (or_true a)
either_second (a ∷ cs) (b ∷ bs) (suc n) e = ap (λ t. (a || b) ∷ t) (either_second cs bs n (omega (arith, e)))

pub either_off : (cs bs : List Bool) (n : ℕ) → length bs ≡ length cs → either (set cs n false) (set bs n false) ≡ set (either cs bs) n false
unfolding either
either_off [] [] n e = refl
either_off [] (b ∷ bs) n e = absurd (omega (arith, e))
either_off (a ∷ cs) [] n e = absurd (omega (arith, e))
either_off (a ∷ cs) (b ∷ bs) zero e = refl
either_off (a ∷ cs) (b ∷ bs) (suc n) e = ap (λ t. (a || b) ∷ t) (either_off cs bs n (omega (arith, e)))

pub either_none : (n : ℕ) → either (replicate n false) (replicate n false) ≡ replicate n false
unfolding either
either_none zero = refl
either_none (suc n) = ap (λ t. false ∷ t) (either_none n)

pub either_swap : (cs bs : List Bool) → length bs ≡ length cs → either cs bs ≡ either bs cs
unfolding either
either_swap [] [] e = refl
either_swap [] (b ∷ bs) e = absurd (omega (arith, e))
either_swap (a ∷ cs) [] e = absurd (omega (arith, e))
either_swap (a ∷ cs) (b ∷ bs) e = ap (λ x. x ∷ either cs bs) (or_swap a b) ∙ ap (λ t. (b || a) ∷ t) (either_swap cs bs (omega (arith, e)))

-- ---- which number comes first
abbrev pub round : List Bool → List Bool → List Bool → List Bool → Round
round cs bs met ws = record { flags = either cs bs; met = met; waits = ws }

pub parts_by : (f m w f' m' w' : List Bool) → f ≡ f' → m ≡ m' → w ≡ w'
    → ◌≡◌ {A = Round} (record { flags = f; met = m; waits = w }) (record { flags = f'; met = m'; waits = w' })
parts_by f m w f' m' w' a b c =
    ap (λ x. let r : Round = record { flags = x; met = m; waits = w } in r) a
    ∙ ap (λ x. let r : Round = record { flags = f'; met = x; waits = w } in r) b
    ∙ ap (λ x. let r : Round = record { flags = f'; met = m'; waits = x } in r) c

in_first : (cs bs : List Bool) (n : ℕ) → length bs ≡ length cs → get_or cs n false ≡ true → get_or (either cs bs) n false ≡ true
in_first cs bs n e h = either_at cs bs n e ∙ ap (λ x. x || get_or bs n false) h

in_second : (cs bs : List Bool) (n : ℕ) → length bs ≡ length cs → get_or bs n false ≡ true → get_or (either cs bs) n false ≡ true
in_second cs bs n e h = either_at cs bs n e ∙ ap (λ x. get_or cs n false || x) h ∙ or_true (get_or cs n false)

in_none : (cs bs : List Bool) (n : ℕ) → length bs ≡ length cs → get_or cs n false ≡ false → get_or bs n false ≡ false → get_or (either cs bs) n false ≡ false
in_none cs bs n e h g = either_at cs bs n e ∙ ap (λ x. x || get_or bs n false) h ∙ g

not_true : (b : Bool) → (b ≡ true → ⊥) → b ≡ false
not_true true h = absurd (h refl)
not_true false h = refl

clash : (b : Bool) → b ≡ false → b ≡ true → ⊥
clash b f t = false≢true (sym f ∙ t)

pub first_coming : (cs bs met ws : List Bool) (n : ℕ) → IsSplit cs bs met ws → IsLeast cs n → IsFirst (round cs bs met ws) n
first_coming cs bs met ws n split least = record {
  within = omega (arith, least.within, either_long cs bs split.long);
  there = in_first cs bs n split.long least.there;
  first = λ k comes. before k comes;
}
  where
    now : get_or ws n false ≡ false
    now = split.present n least.there

    before : (k : ℕ) → ComesBefore (flag_in ws) k n → get_or (either cs bs) k false ≡ false
    before k (inl (a, wait)) = absurd (clash _ now wait)
    before k (inr (e, less)) = in_none cs bs k split.long (least.first k less) (not_true _ (λ h. clash _ (e ∙ now) (split.later k h)))

pub first_waiting : (cs bs met ws : List Bool) (n : ℕ) → IsSplit cs bs met ws → HasNone cs → IsLeast bs n → IsFirst (round cs bs met ws) n
first_waiting cs bs met ws n split none least = record {
  within = omega (arith, least.within, either_long cs bs split.long, split.long);
  there = in_second cs bs n split.long least.there;
  first = λ k comes. before k comes;
}
  where
    before : (k : ℕ) → ComesBefore (flag_in ws) k n → get_or (either cs bs) k false ≡ false
    before k (inl (now, wait)) = in_none cs bs k split.long (none k) (not_true _ (λ h. clash _ now (split.later k h)))
    before k (inr (e, less)) = in_none cs bs k split.long (none k) (least.first k less)

pub first_of_waiting : (cs bs met ws : List Bool) (all : Option ℕ) → IsSplit cs bs met ws → HasNone cs → MatchOption all (HasNone bs) (IsLeast bs)
    → MatchOption all (HasNone (either cs bs)) (IsFirst (round cs bs met ws))
first_of_waiting cs bs met ws None split none h = λ k. in_none cs bs k split.long (none k) (h k)
first_of_waiting cs bs met ws (Some n) split none h = first_waiting cs bs met ws n split none h

-- ---- the parts behind a change
-- a number came in for this round
pub put_coming : (cs bs met ws : List Bool) (n : ℕ) → IsSplit cs bs met ws → n < length cs → get_or ws n false ≡ false → IsSplit (set cs n true) bs (set met n true) ws
put_coming cs bs met ws n split within now = record {
  small = omega (arith, split.small, length-set cs n true);
  long = split.long ∙ sym (length-set cs n true);
  met_long = length-set met n true ∙ split.met_long ∙ sym (length-set cs n true);
  waits_long = split.waits_long ∙ sym (length-set cs n true);
  present = λ k h. go k (flag_was cs n k h);
  later = split.later;
}
  where
    go : (k : ℕ) → (k ≡ n) ⊎ (get_or cs k false ≡ true) → get_or ws k false ≡ false
    go k (inl e) = ap (λ i. get_or ws i false) e ∙ now
    go k (inr h) = split.present k h

-- or for the next one
pub put_waiting : (cs bs met ws : List Bool) (n : ℕ) → IsSplit cs bs met ws → get_or ws n false ≡ true → IsSplit cs (set bs n true) (set met n true) ws
put_waiting cs bs met ws n split wait = record {
  small = split.small;
  long = length-set bs n true ∙ split.long;
  met_long = length-set met n true ∙ split.met_long;
  waits_long = split.waits_long;
  present = split.present;
  later = λ k h. go k (flag_was bs n k h);
}
  where
    go : (k : ℕ) → (k ≡ n) ⊎ (get_or bs k false ≡ true) → get_or ws k false ≡ true
    go k (inl e) = ap (λ i. get_or ws i false) e ∙ wait
    go k (inr h) = split.later k h

-- and waits from then on
pub put_held : (cs bs met ws : List Bool) (n : ℕ) → IsSplit cs bs met ws → n < length cs → IsSplit (set cs n false) (set bs n true) (set met n true) (set ws n true)
put_held cs bs met ws n split within = record {
  small = omega (arith, split.small, length-set cs n false);
  long = length-set bs n true ∙ split.long ∙ sym (length-set cs n false);
  met_long = length-set met n true ∙ split.met_long ∙ sym (length-set cs n false);
  waits_long = length-set ws n true ∙ split.waits_long ∙ sym (length-set cs n false);
  present = λ k h. let o = flag_off cs n k within h in get_or-set_other ws n k true false o.0 ∙ split.present k o.1;
  later = λ k h. flag_on ws n k (omega (arith, within, split.waits_long)) (go k (flag_was bs n k h));
}
  where
    go : (k : ℕ) → (k ≡ n) ⊎ (get_or bs k false ≡ true) → (k ≡ n) ⊎ (get_or ws k false ≡ true)
    go k (inl e) = inl e
    go k (inr h) = inr (split.later k h)

pub either_held : (cs bs : List Bool) (n : ℕ) → length bs ≡ length cs → either (set cs n false) (set bs n true) ≡ set (either cs bs) n true
unfolding either
either_held [] [] n e = refl
either_held [] (b ∷ bs) n e = absurd (omega (arith, e))
either_held (a ∷ cs) [] n e = absurd (omega (arith, e))
either_held (a ∷ cs) (b ∷ bs) zero e = refl
either_held (a ∷ cs) (b ∷ bs) (suc n) e = ap (λ t. (a || b) ∷ t) (either_held cs bs n (omega (arith, e)))

-- it is one of them already
pub set_there : (flags : List Bool) (n : ℕ) → get_or flags n false ≡ true → set flags n true ≡ flags
set_there [] n e = refl
set_there (b ∷ flags) zero e = ap (λ x. x ∷ flags) (sym e)
set_there (b ∷ flags) (suc n) e = ap (λ x. b ∷ x) (set_there flags n e)

-- ---- behind the number that comes first
pub passed_coming : (cs bs met ws : List Bool) (n : ℕ) → IsSplit cs bs met ws → n < length cs → get_or ws n false ≡ false
    → IsSplit (set cs n false) (set bs n false) met (set ws n true)
passed_coming cs bs met ws n split within now = record {
  small = omega (arith, split.small, length-set cs n false);
  long = length-set bs n false ∙ split.long ∙ sym (length-set cs n false);
  met_long = split.met_long ∙ sym (length-set cs n false);
  waits_long = length-set ws n true ∙ split.waits_long ∙ sym (length-set cs n false);
  present = λ k h. let o = flag_off cs n k within h in get_or-set_other ws n k true false o.0 ∙ split.present k o.1;
  later = λ k h. let o = flag_off bs n k (omega (arith, within, split.long)) h in get_or-set_other ws n k true false o.0 ∙ split.later k o.1;
}

-- a round begins
pub passed_waiting : (cs bs met ws : List Bool) (n : ℕ) → IsSplit cs bs met ws → IsFirst (round cs bs met ws) n → n < length cs → get_or ws n false ≡ true
    → IsSplit (set bs n false) (set cs n false) met (set (replicate (length ws) false) n true)
passed_waiting cs bs met ws n split first within wait = record {
  small = omega (arith, split.small, split.long, length-set bs n false);
  long = length-set cs n false ∙ sym split.long ∙ sym (length-set bs n false);
  met_long = split.met_long ∙ sym split.long ∙ sym (length-set bs n false);
  waits_long = length-set (replicate (length ws) false) n true ∙ length-replicate (length ws) false ∙ split.waits_long ∙ sym split.long ∙ sym (length-set bs n false);
  present = λ k h. get_or-set_other (replicate (length ws) false) n k true false (flag_off bs n k (omega (arith, within, split.long)) h).0 ∙ off_at (length ws) k;
  later = λ k h. let o = flag_off cs n k within h in
      absurd (clash _ (first.first k (inl (split.present k o.1, wait))) (in_first cs bs k split.long o.1));
}

-- ---- all that came before a number are in again
pub adds_one : (met old mid : List Bool) (n : ℕ) → Adds (λ k. (k < n) × (flag_in met k ≡ true)) old mid → n < length mid → flag_in met n ≡ true
    → Adds (λ k. (k < n + 1) × (flag_in met k ≡ true)) old (set mid n true)
adds_one met old mid n adds within is = record {
  long = length-set mid n true ∙ adds.long;
  stay = λ k h. flag_on mid n k within (inr (adds.stay k h));
  came = λ k h. flag_on mid n k within (came k h (cases_eq k n));
  only = λ k h. only k (flag_was mid n k h);
}
  where
    came : (k : ℕ) → (k < n + 1) × (flag_in met k ≡ true) → (k ≡ n) ⊎ (k ≡ n → ⊥) → (k ≡ n) ⊎ (get_or mid k false ≡ true)
    came k h (inl e) = inl e
    came k h (inr ne) = inr (adds.came k (omega (arith, h.0, ne), h.1))

    before : (k : ℕ) → (get_or old k false ≡ true) ⊎ ((k < n) × (flag_in met k ≡ true)) → (get_or old k false ≡ true) ⊎ ((k < n + 1) × (flag_in met k ≡ true))
    before k (inl h) = inl h
    before k (inr h) = inr (omega (arith, h.0), h.1)

    only : (k : ℕ) → (k ≡ n) ⊎ (get_or mid k false ≡ true) → (get_or old k false ≡ true) ⊎ ((k < n + 1) × (flag_in met k ≡ true))
    only k (inl e) = inr (omega (arith, e), ap (flag_in met) e ∙ is)
    only k (inr h) = before k (adds.only k h)

pub adds_none : (met old mid : List Bool) (n : ℕ) → Adds (λ k. (k < n) × (flag_in met k ≡ true)) old mid → flag_in met n ≡ false
    → Adds (λ k. (k < n + 1) × (flag_in met k ≡ true)) old mid
adds_none met old mid n adds off = record {
  long = adds.long;
  stay = adds.stay;
  came = λ k h. adds.came k (less k h (cases_eq k n), h.1);
  only = λ k h. before k (adds.only k h);
}
  where
    less : (k : ℕ) → (k < n + 1) × (flag_in met k ≡ true) → (k ≡ n) ⊎ (k ≡ n → ⊥) → k < n
    less k h (inl e) = absurd (clash _ (ap (flag_in met) e ∙ off) h.1)
    less k h (inr ne) = omega (arith, h.0, ne)

    before : (k : ℕ) → (get_or old k false ≡ true) ⊎ ((k < n) × (flag_in met k ≡ true)) → (get_or old k false ≡ true) ⊎ ((k < n + 1) × (flag_in met k ≡ true))
    before k (inl h) = inl h
    before k (inr h) = inr (omega (arith, h.0), h.1)
