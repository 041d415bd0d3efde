-- What is read of the pools of some nodes, one after another.
use Rattle.std.proofs.Common.{◌≡◌, ℕ, ◌+◌, ◌<◌, ◌≤◌, List, [], ◌∷◌, ◌++◌, length, drop, get_or, map, sym, ap, ap₂, ◌∙◌, append_assoc}
use Rattle.std.specs.Option.{option_map, option_to_list}
use Rattle.std.proofs.lemmas.List.{append-nil, drop_more, map_push}
use Rattle.cut_defs.specs.Stored.{Stored}
use Rattle.cut_pool.specs.Held.{Held}
use Rattle.cut_proof.specs.declared.child.ChildCuts.{ChildCuts}
use Rattle.pass_table.specs.declared.table.Reading.{Reading}
use Rattle.cut_banks.specs.Pools.{cuts_of, cuts_at, cuts_read, reading, numbers_at, numbers_read}
use Rattle.cut_banks.proofs.Places.{none_read, one_read}

pub no_cuts_read : (ps : List Held) (i : ℕ) (xs : List (ℕ × List Stored)) → length ps ≤ i → xs ≡ xs ++ cuts_at ps i
no_cuts_read ps i xs h = sym (ap (λ o. xs ++ option_to_list (option_map (λ p. (i, p.cuts)) o)) (none_read ps i h) ∙ append-nil xs)

pub no_number_read : (ps : List Held) (i : ℕ) (xs : List Reading) → length ps ≤ i → xs ≡ xs ++ numbers_at ps i
no_number_read ps i xs h = sym (ap (λ o. xs ++ option_to_list (option_map (reading i) o)) (none_read ps i h) ∙ append-nil xs)

pub cuts_added : (ps : List Held) (i : ℕ) (d : Held) (old new : List ChildCuts) (c : ChildCuts) → i < length ps → new ≡ old ++ c ∷ [] → c.child ≡ i → c.cuts.items ≡ (get_or ps i d).cuts
    → map cuts_of new ≡ map cuts_of old ++ cuts_at ps i
cuts_added ps i d old new c h e n k =
    ap (map cuts_of) e ∙ map_push cuts_of old c
    ∙ ap₂ (λ m cs. map cuts_of old ++ (m, cs) ∷ []) n k
    ∙ sym (ap (λ o. map cuts_of old ++ option_to_list (option_map (λ p. (i, p.cuts)) o)) (one_read ps i d h))

pub number_added : (ps : List Held) (i : ℕ) (d : Held) (old new : List Reading) (n : ℕ) → i < length ps → new ≡ old ++ record { child = i; number = n } ∷ [] → n ≡ (get_or ps i d).number
    → new ≡ old ++ numbers_at ps i
number_added ps i d old new n h e k =
    e ∙ ap (λ m. old ++ record { child = i; number = m } ∷ []) k
    ∙ sym (ap (λ o. old ++ option_to_list (option_map (reading i) o)) (one_read ps i d h))

-- the next child
pub cuts_next : (ps seen : List Held) (nodes : List ℕ) (i child : ℕ) (old new : List (ℕ × List Stored)) → i < length nodes → child ≡ get_or nodes i 0 → seen ≡ ps → new ≡ old ++ cuts_at seen child
    → new ++ cuts_read ps (drop (i + 1) nodes) ≡ old ++ cuts_read ps (drop i nodes)
cuts_next ps seen nodes i child old new h g s e =
    ap (λ xs. xs ++ cuts_read ps (drop (i + 1) nodes)) (e ∙ ap₂ (λ qs n. old ++ cuts_at qs n) s g)
    ∙ append_assoc old (cuts_at ps (get_or nodes i 0)) (cuts_read ps (drop (i + 1) nodes))
    ∙ sym (ap (λ ns. old ++ cuts_read ps ns) (drop_more nodes i 0 h))

pub numbers_next : (ps seen : List Held) (nodes : List ℕ) (i child : ℕ) (old new : List Reading) → i < length nodes → child ≡ get_or nodes i 0 → seen ≡ ps → new ≡ old ++ numbers_at seen child
    → new ++ numbers_read ps (drop (i + 1) nodes) ≡ old ++ numbers_read ps (drop i nodes)
numbers_next ps seen nodes i child old new h g s e =
    ap (λ xs. xs ++ numbers_read ps (drop (i + 1) nodes)) (e ∙ ap₂ (λ qs n. old ++ numbers_at qs n) s g)
    ∙ append_assoc old (numbers_at ps (get_or nodes i 0)) (numbers_read ps (drop (i + 1) nodes))
    ∙ sym (ap (λ ns. old ++ numbers_read ps ns) (drop_more nodes i 0 h))
