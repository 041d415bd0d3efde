-- The task of a node of a program fits together.
use Rattle.std.proofs.Common.{◌≡◌, ℕ, zero, suc, ◌+◌, ◌<◌, ◌≤◌, ◌^◌, Bool, true, false, ◌&&◌, ◌||◌, eqb, leb, ltb, List, [], ◌∷◌, ◌++◌, Option, Some, None, Ok, slice_get, length, map, refl, sym, ap, subst, ◌∙◌, arith, eqb-true, eq-eqb}
use Rattle.std.specs.Option.{option_map, option_to_list}
use Rattle.std.proofs.lemmas.Bool.{leb-true, lt-ltb}
use Rattle.std.proofs.lemmas.List.{length-map}
use Rattle.rationals.specs.Sparse.{Entry}
use Rattle.rationals.specs.Choices.{pick}
use Rattle.scen_defs.specs.Lists.{Each, keep, places, passes_at}
use Rattle.scen_defs.specs.Program.{Program, View, is_live, node_at}
use Rattle.scen_defs.specs.Flat.{is_child, children}
use Rattle.scen_defs.specs.Valid.{IsProgram, Lives}
use Rattle.scen_defs.specs.declared.program.Column.{Column}
use Rattle.scen_defs.specs.declared.report.Kind.{Kind}
use Rattle.scen_defs.specs.declared.report.Kind.TheVariants as run_kind
use Rattle.scen_defs.proofs.Valid.{each-place}
use Rattle.scen_tree.specs.Trees.{Tree, tree_walk}
use Rattle.cut_defs.specs.Data.{Datum, Book, bounds_of, share_of, is_own}
use Rattle.cut_defs.specs.Stored.{Stored, source_of}
use Rattle.cut_defs.specs.declared.datum.Share.{Share}
use Rattle.edit_defs.specs.Data.{view_in}
use Rattle.cut_pool.specs.Held.{Held}
use Rattle.cut_banks.specs.Banks.{pools_of}
use Rattle.cut_banks.specs.Pools.{cuts_of, cuts_at, cuts_read, IsOfNode, AreOfNodes}
use Rattle.cut_banks.specs.declared.banks.Banks.{Banks}
use Rattle.cut_proof.specs.declared.child.ChildCuts.{ChildCuts}
use Rattle.node_lp.specs.declared.task.Task.{Task}
use Rattle.node_lp.specs.Problem.{IsProblem, is_priced, is_taken, child_at, problem_of}
use Rattle.node_lp.specs.Fits.{HasForms, are_others, is_child_here, cut_fits, cuts_fit, children_fit}
use Rattle.node_lp.proofs.FitLemmas.{problem_is, others_by}
use Rattle.node_data.specs.Frames.{Frame, frame_of, parent_in, children_in}
use Rattle.node_data.specs.Laws.{IsIn}
use Rattle.node_data.specs.NodeData.{share_in}
use Rattle.node_data.specs.declared.versions.Version.{Version}
use Rattle.node_data.specs.Counts.{version_of}
use Rattle.found_ends.specs.Lasts.{trial_of}
use Rattle.pass_core.specs.declared.state.State.{State}
use Rattle.pass_core.specs.Explained.{IsDatumOf}
use Rattle.pass_core.specs.Turns.{AreUpTo, PointsStand, datum_in, IsTaskOf}
use Rattle.pass_core.proofs.Standing.{trial_above, above_stands, trial_stands}

-- ---- the datum
-- the book of a program in the form of a kind, the same at each version
abbrev pub program_book : Kind → Program → Book
program_book kind p = let v : View = view_in kind p in record {
  rows = λ n i. v.rows n;
  cost = λ n i. v.cost n;
  shares = λ n i. map (share_of v) (children v n);
  bounds = λ n. map (bounds_of v) (v.columns (v.stage n));
  stage = v.stage;
  parent = v.parent;
}

pub is_in : (kind : Kind) (p : Program) (tree : Tree) (n rows_version costs_version : ℕ) → IsProgram p → tree_walk p ≡ Ok tree → Lives p n
    → IsIn kind p tree n rows_version costs_version (program_book kind p)
is_in kind p tree n rv cv i w l = record {
  program = i;
  walk = w;
  lives = l;
  right = record { rows = refl; cost = refl; shares = refl; bounds = refl; stage = refl; parent = refl };
}

-- ---- how many there are
places_few : {A : Type 0} (test : A → Bool) (k : ℕ) (xs : List A) → length (places test k xs) ≤ length xs
places_few test k [] = omega arith
places_few {A} test k (x ∷ xs) = go (test x) (places_few test (suc k) xs)
  where
    go : (b : Bool) → length (places test (suc k) xs) ≤ length xs → length {A = ℕ} (elim b [ true ↦ k ∷ places test (suc k) xs | false ↦ places test (suc k) xs ]) ≤ suc (length xs)
    go true h = omega (arith, h)
    go false h = omega (arith, h)

keep_few : {A : Type 0} (test : A → Bool) (xs : List A) → length (keep test xs) ≤ length xs
keep_few test [] = omega arith
keep_few {A} test (x ∷ xs) = go (test x) (keep_few test xs)
  where
    go : (b : Bool) → length (keep test xs) ≤ length xs → length {A = A} (elim b [ true ↦ x ∷ keep test xs | false ↦ keep test xs ]) ≤ suc (length xs)
    go true h = omega (arith, h)
    go false h = omega (arith, h)

columns_in_form : (kind : Kind) (p : Program) (n : ℕ)
    → (view_in kind p).columns ((view_in kind p).stage n) ≡ places (λ (c : Column). eqb c.stage (node_at p.nodes n).stage) 0 p.columns
columns_in_form run_kind.Feasible p n = refl
columns_in_form run_kind.Recession p n = refl
columns_in_form run_kind.Cost p n = refl

live_in_form : (kind : Kind) (p : Program) → (view_in kind p).live ≡ places is_live 0 p.nodes
live_in_form run_kind.Feasible p = refl
live_in_form run_kind.Recession p = refl
live_in_form run_kind.Cost p = refl

few_columns : (kind : Kind) (p : Program) (n : ℕ) (version : Version) → IsProgram p → length (datum_in kind p n version).bounds < 2 ^ 32
few_columns kind p n version i =
    let v : View = view_in kind p in
    omega (
      arith,
      length-map (v.columns (v.stage n)) (bounds_of v),
      ap (λ (js : List ℕ). length js) (columns_in_form kind p n),
      places_few (λ (c : Column). eqb c.stage (node_at p.nodes n).stage) 0 p.columns,
      i.small.columns,
    )

few_children : (kind : Kind) (p : Program) (n : ℕ) (version : Version) → IsProgram p → length (datum_in kind p n version).shares < 2 ^ 32
few_children kind p n version i =
    let v : View = view_in kind p in
    omega (
      arith,
      length-map (children v n) (share_of v),
      keep_few (λ m. is_child v n m) v.live,
      ap (λ (js : List ℕ). length js) (live_in_form kind p),
      places_few is_live 0 p.nodes,
      i.small.nodes,
    )

-- ---- the trial
-- no column of one stage is one of an earlier stage
not_both : (s t j : ℕ) (cs : List Column) → t < s → passes_at (λ (c : Column). eqb c.stage s) j cs ≡ true → passes_at (λ (c : Column). leb c.stage t) j cs ≡ true → ⊥
not_both s t j [] l e f = absurd (let no : false ≡ true = e in cc)
not_both s t zero (c ∷ cs) l e f =
    let is : c.stage ≡ s = eqb-true c.stage s e in
    let less : c.stage ≤ t = leb-true c.stage t f in
    absurd (omega (arith, is, less, l))
not_both s t (suc j) (c ∷ cs) l e f = not_both s t j cs l e f

not_own : (v : View) (j : ℕ) (ms : List ℕ) → Each (λ (m : ℕ). eqb m j ≡ false) ms → is_own (map (bounds_of v) ms) j ≡ false
not_own v j [] h = refl
not_own v j (m ∷ ms) h = go (eqb m j) h.0 (not_own v j ms h.1)
  where
    go : (b : Bool) → b ≡ false → is_own (map (bounds_of v) ms) j ≡ false → (b || is_own (map (bounds_of v) ms) j) ≡ false
    go true e h = absurd (let no : true ≡ false = e in cc)
    go false e h = h

-- the columns of a stage
abbrev stage_places : Program → ℕ → List ℕ
stage_places p s = places (λ (c : Column). eqb c.stage s) 0 p.columns

unlike : (p : Program) (s t j m : ℕ) → t < s → passes_at (λ (c : Column). leb c.stage t) j p.columns ≡ true → passes_at (λ (c : Column). eqb c.stage s) m p.columns ≡ true
    → (b : Bool) → eqb m j ≡ b → eqb m j ≡ false
unlike p s t j m l e q true g =
    absurd (not_both s t j p.columns l (subst (λ (k : ℕ). passes_at (λ (c : Column). eqb c.stage s) k p.columns ≡ true) (eqb-true m j g) q) e)
unlike p s t j m l e q false g = g

none_own : (v : View) (p : Program) (s t : ℕ) (f : List Entry) → t < s → AreUpTo p t f → Each (λ (e : Entry). is_own (map (bounds_of v) (stage_places p s)) e.column ≡ false) f
none_own v p s t [] l h = tt
none_own v p s t (e ∷ f) l h = (
  not_own v e.column (stage_places p s)
      (each-place (λ (m : ℕ). eqb m e.column ≡ false) (λ (c : Column). eqb c.stage s) p.columns (λ m q. unlike p s t e.column m l h.0 q (eqb m e.column) refl)),
  none_own v p s t f l h.1,
)

others_before : (v : View) (p : Program) (s t : ℕ) (f : List Entry) → t < s → AreUpTo p t f → are_others (map (bounds_of v) (stage_places p s)) f ≡ true
others_before v p s t f l h = others_by (map (bounds_of v) (stage_places p s)) f (none_own v p s t f l h)

trial_is_other : (kind : Kind) (p : Program) (n : ℕ) (version : Version) (o : Option ℕ) (f : List Entry) → ((m : ℕ) → o ≡ Some m → suc (node_at p.nodes m).stage ≡ (node_at p.nodes n).stage)
    → ((m : ℕ) → o ≡ Some m → AreUpTo p (node_at p.nodes m).stage f) → (o ≡ None → f ≡ []) → are_others (datum_in kind p n version).bounds f ≡ true
trial_is_other kind p n version None f above early none =
    subst (λ (g : List Entry). are_others (datum_in kind p n version).bounds g ≡ true) (sym (none refl)) refl
trial_is_other kind p n version (Some m) f above early none =
    let v : View = view_in kind p in
    subst (λ (js : List ℕ). are_others (map (bounds_of v) js) f ≡ true) (sym (columns_in_form kind p n))
    (others_before v p (node_at p.nodes n).stage (node_at p.nodes m).stage f
    (let e : suc (node_at p.nodes m).stage ≡ (node_at p.nodes n).stage = above m refl in omega (arith, e)) (early m refl))

-- ---- the cuts
-- the children stand at their places, from k on
abbrev AreAt : List Share → ℕ → List ℕ → Type 0
AreAt ss k [] = Unit {0}
AreAt ss k (c ∷ cs) = (child_at ss k ≡ Some c) × AreAt ss (suc k) cs

shifted : (s : Share) (ss : List Share) (k : ℕ) (cs : List ℕ) → AreAt ss k cs → AreAt (s ∷ ss) (suc k) cs
shifted s ss k [] h = tt
shifted s ss k (c ∷ cs) h = (h.0, shifted s ss (suc k) cs h.1)

at_shares : (tree : Tree) (cs : List ℕ) → AreAt (map (share_in tree) cs) 0 cs
at_shares tree [] = tt
at_shares tree (c ∷ cs) = (refl, shifted (share_in tree c) (map (share_in tree) cs) 0 cs (at_shares tree cs))

pool_there : (n c k : ℕ) (pools : List Held) → k ≡ n + c → c < length pools → AreOfNodes n pools → (q : Held) × ((slice_get pools c ≡ Some q) × IsOfNode k q)
pool_there n c k [] e l h = absurd (omega (arith, l))
pool_there n zero k (p ∷ pools) e l h = (p, (refl, subst (λ (j : ℕ). IsOfNode j p) (let f : n ≡ k = omega (arith, e) in f) h.0))
pool_there n (suc c) k (p ∷ pools) e l h = pool_there (suc n) c k pools (omega (arith, e)) (omega (arith, l)) h.1

cuts_here : (priced : Bool) (ss : List Share) (k c : ℕ) (cuts : List Stored) → child_at ss k ≡ Some c → Each (λ (d : Stored). (source_of d).node ≡ c) cuts → cuts_fit priced ss k cuts ≡ true
cuts_here priced ss k c [] e h = refl
cuts_here priced ss k c (d ∷ cuts) e h = go (cut_fits priced ss k d) (fits (is_taken priced (source_of d).kind)) (cuts_here priced ss k c cuts e h.1)
  where
    about : is_child_here (child_at ss k) (source_of d).node ≡ true
    about = ap (λ (o : Option ℕ). is_child_here o (source_of d).node) e ∙ eq-eqb c (source_of d).node (sym h.0)

    fits : (b : Bool) → pick b (is_child_here (child_at ss k) (source_of d).node) true ≡ true
    fits true = about
    fits false = refl

    go : (b : Bool) → b ≡ true → cuts_fit priced ss k cuts ≡ true → elim b [ true ↦ cuts_fit priced ss k cuts | false ↦ false ] ≡ true
    go true q r = r
    go false q r = absurd (let no : false ≡ true = q in cc)

all_here : (priced : Bool) (ss : List Share) (k : ℕ) (pools : List Held) (cs : List ℕ) (all : List ChildCuts) → map cuts_of all ≡ cuts_read pools cs
    → AreOfNodes 0 pools → Each (λ (c : ℕ). c < length pools) cs → AreAt ss k cs → children_fit priced ss k all ≡ true
all_here priced ss k pools [] [] e h w a = refl
all_here priced ss k pools [] (x ∷ all) e h w a = absurd (cc (e))
all_here priced ss k pools (c ∷ cs) all e h w a =
    let q = pool_there 0 c c pools (omega arith) w.0 h in
    let read : cuts_at pools c ≡ (c, q.0.cuts) ∷ [] = ap (λ (o : Option Held). option_to_list (option_map (λ (p : Held). (c, p.cuts)) o)) q.1.0 in
    split all q.0.cuts (e ∙ ap (λ xs. xs ++ cuts_read pools cs) read) q.1.1.cuts (λ rest f. all_here priced ss (suc k) pools cs rest f h w.1 a.1)
  where
    go : (b : Bool) (r : Bool) → b ≡ true → r ≡ true → elim b [ true ↦ r | false ↦ false ] ≡ true
    go true r q f = f
    go false r q f = absurd (let no : false ≡ true = q in cc)

    split : (all : List ChildCuts) (cuts : List Stored) → map cuts_of all ≡ (c, cuts) ∷ cuts_read pools cs → Each (λ (d : Stored). (source_of d).node ≡ c) cuts
        → ((rest : List ChildCuts) → map cuts_of rest ≡ cuts_read pools cs → children_fit priced ss (suc k) rest ≡ true) → children_fit priced ss k all ≡ true
    split [] cuts e h ih = absurd (cc (e))
    split (x ∷ rest) cuts e h ih =
        let first : cuts_of x ≡ (c, cuts) = cc (e) in
        let others : map cuts_of rest ≡ cuts_read pools cs = cc (e) in
        let same : x.cuts.items ≡ cuts = ap (λ (y : ℕ × List Stored). y.1) first in
        go (cuts_fit priced ss k x.cuts.items) (children_fit priced ss (suc k) rest)
        (ap (cuts_fit priced ss k) same ∙ cuts_here priced ss k c cuts a.0 h) (ih rest others)

-- ---- the task
nodes_of : (kind : Kind) (b : Banks) → AreOfNodes 0 b.plain → AreOfNodes 0 b.cone → AreOfNodes 0 (pools_of kind b)
nodes_of run_kind.Feasible b plain cone = plain
nodes_of run_kind.Recession b plain cone = cone
nodes_of run_kind.Cost b plain cone = plain

and_all : (a b c d : Bool) → a ≡ true → b ≡ true → c ≡ true → d ≡ true → (a && (b && (c && d))) ≡ true
and_all true true true true p q r s = refl
and_all false b c d p q r s = absurd (let no : false ≡ true = p in cc)
and_all true false c d p q r s = absurd (let no : false ≡ true = q in cc)
and_all true true false d p q r s = absurd (let no : false ≡ true = r in cc)
and_all true true true false p q r s = absurd (let no : false ≡ true = s in cc)

-- the task of a live node, where the points stand, each child has a pool, and the pools are of their nodes
pub task_fits : (p : Program) (tree : Tree) (s : State) (n : ℕ) (t : Task) → IsProgram p → Lives p n → s.frame ≡ frame_of p → PointsStand p s.lasts.nodes.items
    → AreOfNodes 0 s.banks.plain → AreOfNodes 0 s.banks.cone → Each (λ (c : ℕ). c < length (pools_of s.kind s.banks)) (children_in s.frame n)
    → IsTaskOf p s n t → IsDatumOf t.kind p s.frame tree t.datum → t.datum.node ≡ n → HasForms t → IsProblem (problem_of t)
task_fits p tree s n t i l frame stand plain cone within task d node forms =
    problem_is t d.datum forms
    (and_all (ltb (length t.datum.bounds) (2 ^ 32)) (ltb (length t.datum.shares) (2 ^ 32)) (children_fit (is_priced t.kind) t.datum.shares 0 t.children.items) (are_others t.datum.bounds t.trial)
    (lt-ltb (length t.datum.bounds) (2 ^ 32) (subst (λ (e : Datum). length e.bounds < 2 ^ 32) (sym task.datum) (few_columns s.kind p n (version_of s.versions n) i)))
    (lt-ltb (length t.datum.shares) (2 ^ 32) (subst (λ (e : Datum). length e.shares < 2 ^ 32) (sym task.datum) (few_children s.kind p n (version_of s.versions n) i)))
    (subst (λ (ss : List Share). children_fit (is_priced t.kind) ss 0 t.children.items ≡ true) (sym shares)
    (all_here (is_priced t.kind) (map (share_in tree) (children_in s.frame n)) 0 (pools_of s.kind s.banks) (children_in s.frame n) t.children.items task.cuts
    (nodes_of s.kind s.banks plain cone) within (at_shares tree (children_in s.frame n))))
    (subst (λ (e : Datum). are_others e.bounds t.trial ≡ true) (sym task.datum)
    (subst (λ (f : List Entry). are_others (datum_in s.kind p n (version_of s.versions n)).bounds f ≡ true) (sym trial)
    (trial_is_other s.kind p n (version_of s.versions n) (parent_in (frame_of p) n) (trial_of s.lasts.nodes.items (parent_in (frame_of p) n))
    (λ m e. trial_above p n m i l e)
    (λ m e. subst (λ (o : Option ℕ). AreUpTo p (node_at p.nodes m).stage (trial_of s.lasts.nodes.items o)) (sym e) (above_stands p m s.lasts.nodes.items stand))
    (λ e. ap (trial_of s.lasts.nodes.items) e)))))
  where
    shares : t.datum.shares ≡ map (share_in tree) (children_in s.frame n)
    shares = ap (λ (e : Datum). e.shares) d.stated ∙ ap (λ (m : ℕ). map (share_in tree) (children_in s.frame m)) node

    trial : t.trial ≡ trial_of s.lasts.nodes.items (parent_in (frame_of p) n)
    trial = task.trial ∙ ap (λ (f : Frame). trial_of s.lasts.nodes.items (parent_in f n)) frame

-- its trial stands over columns of earlier stages
pub task_trial : (p : Program) (s : State) (n : ℕ) (t : Task) → IsProgram p → Lives p n → s.frame ≡ frame_of p → PointsStand p s.lasts.nodes.items
    → IsTaskOf p s n t → AreUpTo p (node_at p.nodes n).stage t.trial
task_trial p s n t i l frame stand task =
    subst (AreUpTo p (node_at p.nodes n).stage) (sym (task.trial ∙ ap (λ (f : Frame). trial_of s.lasts.nodes.items (parent_in f n)) frame))
    (trial_stands p n s.lasts.nodes.items i l stand)
