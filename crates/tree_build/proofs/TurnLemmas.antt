-- Sets in falling order of their columns come to the same from the last one on.
use Rattle.std.proofs.Common.{◌≡◌, ◌∙◌, ap, ap₂, sym, refl, subst, ℕ, zero, suc, ◌+◌, ◌-◌, ◌<◌, ◌≤◌, Bool, true, false, ◌&&◌, List, [], ◌∷◌, ◌++◌, length, get_or, take, drop, nat_eq, nat_lt, arith, if◌then◌else◌}
use Rattle.std.proofs.lemmas.List.{drop_more}
use Rattle.std.proofs.lemmas.Bool.Decides.{nat_tests}
use Rattle.rationals.specs.Rational.{ℚ, zero_ℚ}
use Rattle.rationals.specs.Sparse.{Entry as Term}
use Rattle.rationals.specs.Forms.{put}
use Rattle.frac128.proofs.FormLemmas.{put_nonzero}
use Rattle.scen_defs.specs.Lists.{Each}
use Rattle.smps_words.specs.declared.entry.Entry.{Entry}
use Rattle.smps_words.specs.declared.entry.Entry.TheVariants.{Cost, Matrix, Rhs}
use Rattle.core_defs.specs.declared.program.Core.{Core}
use Rattle.time_defs.specs.Means.{Stages}
use Rattle.stoch_defs.specs.Random.{Sets}
use Rattle.tree_build.specs.declared.parts.RowValues.{RowValues}
use Rattle.tree_build.specs.Values.{put_at, Values, at_row, with_entry, with_set, with_sets}
use Rattle.tree_build.specs.Turns.{place_key, IsInColumn, AreFalling, AllFall}
use Rattle.tree_build.proofs.TermLemmas.{put_apart}

-- ---- two values other than 0 in two columns of a form

abbrev term : ℕ → ℚ → Term
term j v = record { column = j; value = v }

put_is : (j : ℕ) (v : ℚ) (f : List Term) → (v ≡ zero_ℚ → ⊥) → put j v f ≡ term j v ∷ f
put_is j v f some = put_apart j v f ∙ ap (λ front. front ++ f) (put_nonzero j v some)

less : (a b : ℕ) → a < b → nat_lt a b ≡ true
less a b h = grind (arith, nat_tests)

not_less : (a b : ℕ) → b ≤ a → nat_lt a b ≡ false
not_less a b h = grind (arith, nat_tests)

like : (a b : ℕ) → a ≡ b → nat_eq a b ≡ true
like a b h = grind (arith, nat_tests)

unlike : (a b : ℕ) → a < b → nat_eq b a ≡ false
unlike a b h = grind (arith, nat_tests)

first_of : {A : Type 0} (b a : Bool) (x y z : A) → b ≡ true → (if b then x else (if a then y else z)) ≡ x
first_of b a x y z e = ap (λ t. if t then x else (if a then y else z)) e

second_of : {A : Type 0} (b a : Bool) (x y z : A) → b ≡ false → a ≡ true → (if b then x else (if a then y else z)) ≡ y
second_of b a x y z e f = ap (λ t. if t then x else (if a then y else z)) e ∙ ap (λ t. if t then y else z) f

third_of : {A : Type 0} (b a : Bool) (x y z : A) → b ≡ false → a ≡ false → (if b then x else (if a then y else z)) ≡ z
third_of b a x y z e f = ap (λ t. if t then x else (if a then y else z)) e ∙ ap (λ t. if t then y else z) f

on_before : (j : ℕ) (v : ℚ) (e : Term) (f : List Term) → e.column < j → put_at j v (e ∷ f) ≡ e ∷ put_at j v f
on_before j v e f h = first_of (nat_lt e.column j) (nat_eq e.column j) (e ∷ put_at j v f) (put j v f) (put j v (e ∷ f)) (less e.column j h)

on_here : (j : ℕ) (v : ℚ) (e : Term) (f : List Term) → (v ≡ zero_ℚ → ⊥) → e.column ≡ j → put_at j v (e ∷ f) ≡ term j v ∷ f
on_here j v e f some h = second_of (nat_lt e.column j) (nat_eq e.column j) (e ∷ put_at j v f) (put j v f) (put j v (e ∷ f)) (not_less e.column j (omega (arith, h))) (like e.column j h) ∙ put_is j v f some

on_behind : (j : ℕ) (v : ℚ) (e : Term) (f : List Term) → (v ≡ zero_ℚ → ⊥) → j < e.column → put_at j v (e ∷ f) ≡ term j v ∷ e ∷ f
on_behind j v e f some h = third_of (nat_lt e.column j) (nat_eq e.column j) (e ∷ put_at j v f) (put j v f) (put j v (e ∷ f)) (not_less e.column j (omega (arith, h))) (unlike j e.column h) ∙ put_is j v (e ∷ f) some

-- a is below b, is b, or is above b
data Order (a b : ℕ) : Type 0 where
  Below : a < b → Order a b
  Same : a ≡ b → Order a b
  Above : b < a → Order a b

order : (a b : ℕ) → Order a b
order zero zero = Same refl
order zero (suc b) = Below (omega arith)
order (suc a) zero = Above (omega arith)
order (suc a) (suc b) = go (order a b)
  where
    go : Order a b → Order (suc a) (suc b)
    go (Below h) = Below (omega (arith, h))
    go (Same h) = Same (ap suc h)
    go (Above h) = Above (omega (arith, h))

on_both : (j k : ℕ) (v w : ℚ) (f : List Term) → (v ≡ zero_ℚ → ⊥) → (w ≡ zero_ℚ → ⊥) → j < k → put_at j v (put_at k w f) ≡ put_at k w (put_at j v f)
on_both j k v w [] one other h =
    ap (put_at j v) (put_is k w [] other) ∙ on_behind j v (term k w) [] one h
    ∙ sym (ap (put_at k w) (put_is j v [] one) ∙ on_before k w (term j v) [] h ∙ ap (λ f. term j v ∷ f) (put_is k w [] other))
on_both j k v w (e ∷ f) one other h = go (order e.column j) (order e.column k) (on_both j k v w f one other h)
  where
    go : Order e.column j → Order e.column k → put_at j v (put_at k w f) ≡ put_at k w (put_at j v f) → put_at j v (put_at k w (e ∷ f)) ≡ put_at k w (put_at j v (e ∷ f))
    go (Below low) at_k rest =
        ap (put_at j v) (on_before k w e f (omega (arith, low, h))) ∙ on_before j v e (put_at k w f) low ∙ ap (λ g. e ∷ g) rest
        ∙ sym (ap (put_at k w) (on_before j v e f low) ∙ on_before k w e (put_at j v f) (omega (arith, low, h)))
    go (Same here) at_k rest =
        ap (put_at j v) (on_before k w e f (omega (arith, here, h))) ∙ on_here j v e (put_at k w f) one here
        ∙ sym (ap (put_at k w) (on_here j v e f one here) ∙ on_before k w (term j v) f h)
    go (Above high) (Below low) rest =
        ap (put_at j v) (on_before k w e f low) ∙ on_behind j v e (put_at k w f) one high
        ∙ sym (ap (put_at k w) (on_behind j v e f one high) ∙ on_before k w (term j v) (e ∷ f) h ∙ ap (λ g. term j v ∷ g) (on_before k w e f low))
    go (Above high) (Same here) rest =
        ap (put_at j v) (on_here k w e f other here) ∙ on_behind j v (term k w) f one h
        ∙ sym (ap (put_at k w) (on_behind j v e f one high) ∙ on_before k w (term j v) (e ∷ f) h ∙ ap (λ g. term j v ∷ g) (on_here k w e f other here))
    go (Above high) (Above higher) rest =
        ap (put_at j v) (on_behind k w e f other higher) ∙ on_behind j v (term k w) (e ∷ f) one h
        ∙ sym (ap (put_at k w) (on_behind j v e f one high) ∙ on_before k w (term j v) (e ∷ f) h ∙ ap (λ g. term j v ∷ g) (on_behind k w e f other higher))

put_both : (j k : ℕ) (v w : ℚ) (f : List Term) → (v ≡ zero_ℚ → ⊥) → (w ≡ zero_ℚ → ⊥) → (j ≡ k → ⊥) → put_at j v (put_at k w f) ≡ put_at k w (put_at j v f)
put_both j k v w f one other apart = go (order j k)
  where
    go : Order j k → put_at j v (put_at k w f) ≡ put_at k w (put_at j v f)
    go (Below h) = on_both j k v w f one other h
    go (Same h) = absurd (apart h)
    go (Above h) = sym (on_both k j w v f other one h)

-- ---- two changes of rows

abbrev at_one : ℕ → (RowValues → RowValues) → RowValues → RowValues
at_one i f r = if nat_eq r.row i then f r else r

yes : (i : ℕ) (f : RowValues → RowValues) (r : RowValues) → nat_eq r.row i ≡ true → at_one i f r ≡ f r
yes i f r e = ap (λ t. if t then f r else r) e

no : (i : ℕ) (f : RowValues → RowValues) (r : RowValues) → nat_eq r.row i ≡ false → at_one i f r ≡ r
no i f r e = ap (λ t. if t then f r else r) e

one_row : (i k : ℕ) (f g : RowValues → RowValues) (r : RowValues) → (f r).row ≡ r.row → (g r).row ≡ r.row → (nat_eq r.row i ≡ true → nat_eq r.row k ≡ true → g (f r) ≡ f (g r)) →
    at_one k g (at_one i f r) ≡ at_one i f (at_one k g r)
one_row i k f g r keeps_f keeps_g both = go (nat_eq r.row i) refl (nat_eq r.row k) refl
  where
    go : (b : Bool) → nat_eq r.row i ≡ b → (a : Bool) → nat_eq r.row k ≡ a → at_one k g (at_one i f r) ≡ at_one i f (at_one k g r)
    go true at_i true at_k =
        ap (at_one k g) (yes i f r at_i) ∙ yes k g (f r) (ap (λ n. nat_eq n k) keeps_f ∙ at_k) ∙ both at_i at_k
        ∙ sym (ap (at_one i f) (yes k g r at_k) ∙ yes i f (g r) (ap (λ n. nat_eq n i) keeps_g ∙ at_i))
    go true at_i false at_k =
        ap (at_one k g) (yes i f r at_i) ∙ no k g (f r) (ap (λ n. nat_eq n k) keeps_f ∙ at_k)
        ∙ sym (ap (at_one i f) (no k g r at_k) ∙ yes i f r at_i)
    go false at_i true at_k =
        ap (at_one k g) (no i f r at_i) ∙ yes k g r at_k
        ∙ sym (ap (at_one i f) (yes k g r at_k) ∙ no i f (g r) (ap (λ n. nat_eq n i) keeps_g ∙ at_i))
    go false at_i false at_k =
        ap (at_one k g) (no i f r at_i) ∙ no k g r at_k
        ∙ sym (ap (at_one i f) (no k g r at_k) ∙ no i f r at_i)

same_number : (n i k : ℕ) → nat_eq n i ≡ true → nat_eq n k ≡ true → i ≡ k
same_number n i k a b = let one : n ≡ i = grind (arith, nat_tests, a) in let other : n ≡ k = grind (arith, nat_tests, b) in sym one ∙ other

rows_both : (i j k l : ℕ) (v w : ℚ) (rows : List RowValues) → (v ≡ zero_ℚ → ⊥) → (w ≡ zero_ℚ → ⊥) → (i ≡ k → j ≡ l → ⊥) →
    at_row k (with_entry l w) (at_row i (with_entry j v) rows) ≡ at_row i (with_entry j v) (at_row k (with_entry l w) rows)
rows_both i j k l v w [] one other apart = refl
rows_both i j k l v w (r ∷ rows) one other apart =
    ap₂ (λ (x : RowValues) (xs : List RowValues). x ∷ xs)
    (one_row i k (with_entry j v) (with_entry l w) r refl refl
    (λ at_i at_k. ap (λ entries. let x : RowValues = record { row = r.row; entries = entries; rhs = r.rhs } in x)
    (put_both l j w v r.entries other one (λ e. apart (same_number r.row i k at_i at_k) (sym e)))))
    (rows_both i j k l v w rows one other apart)

-- ---- two sets

costs_by : {cost other : List Term} {rows : List RowValues} → cost ≡ other → (let a : Values = record { cost = cost; rows = rows } in a) ≡ (let b : Values = record { cost = other; rows = rows } in b)
costs_by {cost} {other} {rows} e = ap (λ (c : List Term). let x : Values = record { cost = c; rows = rows } in x) e

rows_by : {cost : List Term} {rows others : List RowValues} → rows ≡ others → (let a : Values = record { cost = cost; rows = rows } in a) ≡ (let b : Values = record { cost = cost; rows = others } in b)
rows_by {cost} {rows} {others} e = ap (λ (r : List RowValues). let x : Values = record { cost = cost; rows = r } in x) e

abbrev with_cost : Bool → ℕ → ℚ → Values → Values
with_cost b j v d = if b then record { cost = put_at j v d.cost; rows = d.rows } else d

abbrev with_row : Bool → ℕ → ℕ → ℚ → Values → Values
with_row b i j v d = if b then record { cost = d.cost; rows = at_row i (with_entry j v) d.rows } else d

set_both : (core : Core) (p : Stages) (stage : ℕ) (d : Values) (e x : Entry) (v w : ℚ) → IsInColumn e v → IsInColumn x w → (e ≡ x → ⊥) →
    with_set core p stage (with_set core p stage d e v) x w ≡ with_set core p stage (with_set core p stage d x w) e v
set_both core p stage d (Cost j) (Cost k) v w one other apart =
    go (nat_lt j (length p.columns) && nat_eq (get_or p.columns j 0) stage) (nat_lt k (length p.columns) && nat_eq (get_or p.columns k 0) stage)
  where
    go : (a b : Bool) → with_cost b k w (with_cost a j v d) ≡ with_cost a j v (with_cost b k w d)
    go true true = costs_by (put_both k j w v d.cost other one (λ e. apart (ap Cost (sym e))))
    go true false = refl
    go false true = refl
    go false false = refl
set_both core p stage d (Cost j) (Matrix i k) v w one other apart =
    go (nat_lt j (length p.columns) && nat_eq (get_or p.columns j 0) stage) (nat_lt k (length core.columns.items))
  where
    go : (a b : Bool) → with_row b i k w (with_cost a j v d) ≡ with_cost a j v (with_row b i k w d)
    go true true = refl
    go true false = refl
    go false true = refl
    go false false = refl
set_both core p stage d (Matrix i j) (Cost k) v w one other apart =
    go (nat_lt j (length core.columns.items)) (nat_lt k (length p.columns) && nat_eq (get_or p.columns k 0) stage)
  where
    go : (a b : Bool) → with_cost b k w (with_row a i j v d) ≡ with_row a i j v (with_cost b k w d)
    go true true = refl
    go true false = refl
    go false true = refl
    go false false = refl
set_both core p stage d (Matrix i j) (Matrix k l) v w one other apart =
    go (nat_lt j (length core.columns.items)) (nat_lt l (length core.columns.items))
  where
    go : (a b : Bool) → with_row b k l w (with_row a i j v d) ≡ with_row a i j v (with_row b k l w d)
    go true true = rows_by (rows_both i j k l v w d.rows one other (λ e f. apart (ap₂ Matrix e f)))
    go true false = refl
    go false true = refl
    go false false = refl
set_both core p stage d (Rhs i) x v w one other apart = absurd one
set_both core p stage d (Cost j) (Rhs i) v w one other apart = absurd other
set_both core p stage d (Matrix i j) (Rhs k) v w one other apart = absurd other

-- ---- all sets, from the last one on

differ : (one other : Entry × ℚ) → AreFalling one other → other.0 ≡ one.0 → ⊥
differ one other falls same = let keys = falls.keys in let e : place_key other.0 ≡ place_key one.0 = ap place_key same in omega (arith, keys, e)

set_late : (core : Core) (p : Stages) (stage : ℕ) (d : Values) (pair : Entry × ℚ) (sets : Sets) → Each (AreFalling pair) sets →
    with_set core p stage (with_sets core p stage d sets) pair.0 pair.1 ≡ with_sets core p stage (with_set core p stage d pair.0 pair.1) sets
set_late core p stage d pair [] falls = refl
set_late core p stage d pair (x ∷ sets) falls =
    set_late core p stage (with_set core p stage d x.0 x.1) pair sets falls.1
    ∙ ap (λ s. with_sets core p stage s sets) (set_both core p stage d x.0 pair.0 x.1 pair.1 falls.0.second falls.0.first (differ pair x falls.0))

falls_drop : (i : ℕ) (sets : Sets) → AllFall sets → AllFall (drop i sets)
falls_drop zero sets falls = falls
falls_drop (suc i) [] falls = tt
falls_drop (suc i) (pair ∷ sets) falls = falls_drop i sets falls.1

pub back_step : (core : Core) (p : Stages) (stage : ℕ) (d : Values) (sets : Sets) (i left : ℕ) (pair : Entry × ℚ) → left ≡ i + 1 → i < length sets → pair ≡ get_or sets i pair → AllFall sets →
    with_set core p stage (with_sets core p stage d (drop left sets)) pair.0 pair.1 ≡ with_sets core p stage d (drop i sets)
back_step core p stage d sets i left pair before below is falls =
    let next : drop i sets ≡ pair ∷ drop (i + 1) sets = drop_more sets i pair below ∙ ap (λ x. x ∷ drop (i + 1) sets) (sym is) in
    let behind = subst AllFall next (falls_drop i sets falls) in
    ap (λ k. with_set core p stage (with_sets core p stage d (drop k sets)) pair.0 pair.1) before
    ∙ set_late core p stage d pair (drop (i + 1) sets) behind.0 ∙ ap (with_sets core p stage d) (sym next)

-- ---- a run of falling sets

falls_both : (one other third : Entry × ℚ) → AreFalling one other → AreFalling other third → AreFalling one third
falls_both one other third a b = record { first = a.first; second = b.second; keys = (let k = a.keys in let l = b.keys in omega (arith, k, l)) }

each_more : (one : Entry × ℚ) (sets : Sets) (n : ℕ) (d : Entry × ℚ) → Each (AreFalling one) (take (suc n) sets) → suc n < length sets → AreFalling (get_or sets n d) (get_or sets (suc n) d) →
    Each (AreFalling one) (take (suc (suc n)) sets)
each_more one [] n d all below last = absurd (omega (arith, below))
each_more one (x ∷ []) n d all below last = absurd (omega (arith, below))
each_more one (x ∷ y ∷ sets) zero d all below last = (all.0, (falls_both one x y all.0 last, tt))
each_more one (x ∷ y ∷ sets) (suc n) d all below last = (all.0, each_more one (y ∷ sets) n d all.1 (omega (arith, below)) last)

pub run_more : (sets : Sets) (n : ℕ) (d : Entry × ℚ) → AllFall (take (suc n) sets) → suc n < length sets → AreFalling (get_or sets n d) (get_or sets (suc n) d) → AllFall (take (suc (suc n)) sets)
run_more [] n d falls below last = absurd (omega (arith, below))
run_more (x ∷ []) n d falls below last = absurd (omega (arith, below))
run_more (x ∷ y ∷ sets) zero d falls below last = ((last, tt), (tt, tt))
run_more (x ∷ y ∷ sets) (suc n) d falls below last = (each_more x (y ∷ sets) n d falls.0 (omega (arith, below)) last, run_more (y ∷ sets) n d falls.1 (omega (arith, below)) last)

pub run_first : (sets : Sets) → 0 < length sets → AllFall (take 1 sets)
run_first [] some = absurd (omega (arith, some))
run_first (x ∷ sets) some = (tt, tt)

any_past : {A : Type 0} (xs : List A) (i : ℕ) (d e : A) → i < length xs → get_or xs i d ≡ get_or xs i e
any_past [] i d e below = absurd (omega (arith, below))
any_past (x ∷ xs) zero d e below = refl
any_past (x ∷ xs) (suc i) d e below = any_past xs i d e (omega (arith, below))

pub run_next : (sets : Sets) (count : ℕ) (a b : Entry × ℚ) → 0 < count → count < length sets → a ≡ get_or sets (count - 1) a → b ≡ get_or sets count b → AllFall (take count sets) → AreFalling a b →
    AllFall (take (count + 1) sets)
run_next sets zero a b some below is_a is_b fall last = absurd (omega (arith, some))
run_next sets (suc n) a b some below is_a is_b fall last =
    let at : suc n - 1 ≡ n = omega arith in
    let first : a ≡ get_or sets n a = is_a ∙ ap (λ k. get_or sets k a) at in
    let second : b ≡ get_or sets (suc n) a = is_b ∙ any_past sets (suc n) b a below in
    let behind : AreFalling (get_or sets n a) (get_or sets (suc n) a) = subst (AreFalling (get_or sets n a)) second (subst (λ x. AreFalling x b) first last) in
    subst (λ k. AllFall (take k sets)) (let same : suc (suc n) ≡ suc n + 1 = omega arith in same) (run_more sets n a fall below behind)
