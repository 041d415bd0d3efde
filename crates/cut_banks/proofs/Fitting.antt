-- Pools for the nodes of a program, node by node.
use Rattle.std.proofs.Common.{◌≡◌, ℕ, suc, ◌+◌, ◌-◌, ◌<◌, ◌≤◌, Bool, true, false, List, [], ◌∷◌, ◌++◌, length, set, drop}
use Rattle.std.proofs.Common.{ltb, refl, sym, ap, ap₂, ◌∙◌, arith, append_assoc, add-one, Option}
use Rattle.std.proofs.lemmas.Bool.{lt-ltb, le-ltb, ltb-true}
use Rattle.std.proofs.lemmas.List.{append-nil, length_push, length-set, set_at, length-append, drop_all}
use Rattle.rationals.specs.Choices.{pick}
use Rattle.scen_defs.specs.Program.{Node, is_live, place_content, nodes_content}
use Rattle.scen_defs.specs.declared.program.Node.{Node as NodeOf}
use Rattle.cut_pool.specs.Held.{Held}
use Rattle.cut_banks.specs.Pools.{no_cuts, all_empty, fit_pools, fit_pool}

-- ---- empty pools, one after another
pub empty_next : (ps qs : List Held) (n m : ℕ) → n < m → qs ≡ ps ++ no_cuts n ∷ [] → qs ++ all_empty (n + 1) (m - (n + 1)) ≡ ps ++ all_empty n (m - n)
empty_next ps qs n m h e =
    ap₂ (λ x y. x ++ all_empty y (m - (n + 1))) e (add-one n) ∙ append_assoc ps (no_cuts n ∷ []) (all_empty (suc n) (m - (n + 1)))
    ∙ ap (λ k. ps ++ all_empty n k) (let s : suc (m - (n + 1)) ≡ m - n = omega (arith, h) in s)

pub empty_done : (ps : List Held) (n m : ℕ) → m ≤ n → ps ++ all_empty n (m - n) ≡ ps
empty_done ps n m h = ap (λ k. ps ++ all_empty n k) (let z : m - n ≡ 0 = omega (arith, h) in z) ∙ append-nil ps

-- ---- one node
pub fitted_past : (n : ℕ) (live : Bool) (ps qs : List Held) → length ps ≤ n → qs ≡ ps ++ no_cuts n ∷ [] → qs ≡ fit_pool n live ps
fitted_past n live ps qs h e = e ∙ sym (ap (λ b. pick b (pick live ps (set ps n (no_cuts n))) (ps ++ no_cuts n ∷ [])) (le-ltb n (length ps) h))

pub fitted_live : (n : ℕ) (live : Bool) (ps : List Held) → n < length ps → live ≡ true → ps ≡ fit_pool n live ps
fitted_live n live ps h l = sym (ap₂ (λ b c. pick b (pick c ps (set ps n (no_cuts n))) (ps ++ no_cuts n ∷ [])) (lt-ltb n (length ps) h) l)

pub fitted_gone : (n : ℕ) (live : Bool) (ps qs : List Held) → n < length ps → live ≡ false → qs ≡ set ps n (no_cuts n) → qs ≡ fit_pool n live ps
fitted_gone n live ps qs h l e = e ∙ sym (ap₂ (λ b c. pick b (pick c ps (set ps n (no_cuts n))) (ps ++ no_cuts n ∷ [])) (lt-ltb n (length ps) h) l)

-- ---- the nodes in turn
abbrev pub fit_from : ℕ → List (Option Node) → List Held → List Held
fit_from n [] ps = ps
fit_from n (place ∷ places) ps = fit_from (suc n) places (fit_pool n (is_live place) ps)

-- behind the last pool, and at one of them
one_more : (n : ℕ) (live : Bool) (done : List Held) → length done ≡ n → fit_pool n live (done ++ []) ≡ done ++ no_cuts n ∷ []
one_more n live done l =
    ap (fit_pool n live) (append-nil done)
    ∙ ap (λ b. pick b (pick live done (set done n (no_cuts n))) (done ++ no_cuts n ∷ [])) (le-ltb n (length done) (omega (arith, l)))

same_one : (n : ℕ) (live : Bool) (done : List Held) (p : Held) (ps : List Held) → length done ≡ n → fit_pool n live (done ++ p ∷ ps) ≡ (done ++ pick live p (no_cuts n) ∷ []) ++ ps
same_one n live done p ps l =
    ap (λ b. pick b (pick live (done ++ p ∷ ps) (set (done ++ p ∷ ps) n (no_cuts n))) ((done ++ p ∷ ps) ++ no_cuts n ∷ []))
    (lt-ltb n (length (done ++ p ∷ ps)) (let s : length (done ++ p ∷ ps) ≡ length done + suc (length ps) = length-append done (p ∷ ps) in omega (arith, l, s)))
    ∙ go live
  where
    go : (b : Bool) → pick b (done ++ p ∷ ps) (set (done ++ p ∷ ps) n (no_cuts n)) ≡ (done ++ pick b p (no_cuts n) ∷ []) ++ ps
    go true = sym (append_assoc done (p ∷ []) ps)
    go false = set_at done p ps (no_cuts n) n l ∙ sym (append_assoc done (no_cuts n ∷ []) ps)

pushed : (n : ℕ) (done : List Held) (p : Held) → length done ≡ n → length (done ++ p ∷ []) ≡ suc n
pushed n done p l = length_push done p ∙ add-one (length done) ∙ ap (λ (k : ℕ). suc k) l

fit_rest : (n : ℕ) (places : List (Option Node)) (done rest : List Held) → length done ≡ n → fit_from n places (done ++ rest) ≡ done ++ fit_pools n places rest
fit_rest n [] done rest l = refl
fit_rest n (place ∷ places) done [] l =
    ap (fit_from (suc n) places) (one_more n (is_live place) done l ∙ sym (append-nil (done ++ no_cuts n ∷ [])))
    ∙ fit_rest (suc n) places (done ++ no_cuts n ∷ []) [] (pushed n done (no_cuts n) l)
    ∙ append_assoc done (no_cuts n ∷ []) (fit_pools (suc n) places [])
fit_rest n (place ∷ places) done (p ∷ ps) l =
    let q : Held = pick (is_live place) p (no_cuts n) in
    ap (fit_from (suc n) places) (same_one n (is_live place) done p ps l)
    ∙ fit_rest (suc n) places (done ++ q ∷ []) ps (pushed n done q l)
    ∙ append_assoc done (q ∷ []) (fit_pools (suc n) places ps)

pub fit_all : (places : List (Option Node)) (ps : List Held) → fit_from 0 places ps ≡ fit_pools 0 places ps
fit_all places ps = fit_rest 0 places [] ps refl

-- a node that is read and fit_pools
pub fit_next : (nodes : List (Option NodeOf)) (i : ℕ) (place : Option NodeOf) (live : Bool) (ps qs : List Held)
    → drop i nodes ≡ place ∷ drop (i + 1) nodes → live ≡ is_live (place_content place) → qs ≡ fit_pool i live ps
    → fit_from (i + 1) (nodes_content (drop (i + 1) nodes)) qs ≡ fit_from i (nodes_content (drop i nodes)) ps
fit_next nodes i place live ps qs d b q =
    ap₂ (λ n rs. fit_from n (nodes_content (drop (i + 1) nodes)) rs) (add-one i) (q ∙ ap (λ x. fit_pool i x ps) b)
    ∙ sym (ap (λ ns. fit_from i (nodes_content ns) ps) d)

pub fit_done : (nodes : List (Option NodeOf)) (i : ℕ) (ps qs : List Held) → length nodes ≤ i → fit_from i (nodes_content (drop i nodes)) qs ≡ fit_from 0 (nodes_content nodes) ps
    → qs ≡ fit_pools 0 (nodes_content nodes) ps
fit_done nodes i ps qs h e = sym (ap (λ ns. fit_from i (nodes_content ns) qs) (drop_all i nodes h)) ∙ e ∙ fit_all (nodes_content nodes) ps

as_many : (nodes : List (Option NodeOf)) → length (nodes_content nodes) ≡ length nodes
as_many [] = refl
as_many (place ∷ nodes) = ap (λ (n : ℕ). suc n) (as_many nodes)

pub few_seen : (nodes seen : List (Option NodeOf)) (k : ℕ) → seen ≡ nodes → length (nodes_content nodes) < k → length seen < k
few_seen nodes seen k e h = let s : length seen ≡ length (nodes_content nodes) = ap length e ∙ sym (as_many nodes) in omega (arith, h, s)

-- there are pools up to the node
pub fitted_length : (n : ℕ) (live : Bool) (ps : List Held) → n ≤ length ps → n + 1 ≤ length (fit_pool n live ps)
fitted_length n live ps h = go (ltb n (length ps)) refl live
  where
    go : (b : Bool) → ltb n (length ps) ≡ b → (l : Bool) → n + 1 ≤ length (pick b (pick l ps (set ps n (no_cuts n))) (ps ++ no_cuts n ∷ []))
    go true e true = let s : n < length ps = ltb-true n (length ps) e in omega (arith, s)
    go true e false = let s : n < length ps = ltb-true n (length ps) e in omega (arith, s, length-set ps n (no_cuts n))
    go false e l = omega (arith, length_push ps (no_cuts n), h)
