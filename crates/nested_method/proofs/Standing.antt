-- The touches of an edit carry the versions that stand behind it, since no two are of one node.
use Rattle.std.proofs.Common.{◌≡◌, ℕ, zero, suc, ◌<◌, ◌≤◌, ◌-◌, Bool, true, false, List, [], ◌∷◌, length, map, take, replicate}
use Rattle.std.proofs.Common.{Option, Some, None, refl, sym, ap, subst, ◌∙◌, arith}
use Rattle.std.proofs.Math.ListN.{length-set, length-append, get_or-append}
use Rattle.std.proofs.lemmas.List.{get_or-set_same, get_or-set_other, length-replicate}
use Rattle.scen_defs.specs.Lists.{Each}
use Rattle.scen_defs.specs.Program.{Node, Program, node_at, is_live}
use Rattle.scen_defs.specs.Valid.{Follows, IsProgram}
use Rattle.cut_defs.specs.declared.kinds.Part.{Part}
use Rattle.cut_defs.specs.declared.kinds.Part.TheVariants.{Rows, Costs, Gone}
use Rattle.cut_defs.specs.declared.versions.Touch.{Touch}
use Rattle.edit_defs.specs.declared.edit.Edit.{Edit}
use Rattle.edit_defs.specs.declared.edit.Edit.TheVariants.{Set, Prob, Drop, Add}
use Rattle.edit_defs.specs.declared.edit.Touched.{Touched}
use Rattle.edit_defs.specs.After.{after, change_node, home_of, with_value}
use Rattle.edit_defs.specs.Applies.{Applies}
use Rattle.edit_defs.specs.Touches.{costs_of, costs_or_gone, path_of, touches}
use Rattle.edit_defs.proofs.Kept.{home-is}
use Rattle.edit_defs.proofs.Lists.{passes-within}
use Rattle.edit_defs.proofs.Paths.{take-long}
use Rattle.edit_defs.proofs.Stays.{named-fits}
use Rattle.edit_retire.proofs.Fronts.{children_of_path}
use Rattle.node_data.specs.declared.versions.Version.{Version}
use Rattle.node_data.specs.Counts.{untouched, version_of}
use Rattle.pass_core.specs.Versions.{next_version, with_next, next_touches, next_versions}
use Rattle.nested_method.specs.Edited.{is_grown, fit_versions, raised_versions}
use Rattle.nested_method.specs.Laws.{standing, TouchesStand}

-- ---- one place
pub others-stay : (part : Part) (m n : ℕ) (vs : List Version) → (n ≡ m → ⊥) → version_of (with_next part m vs) n ≡ version_of vs n
others-stay Rows m n vs h = get_or-set_other vs m n _ untouched h
others-stay Costs m n vs h = get_or-set_other vs m n _ untouched h
others-stay Gone m n vs h = refl

here : (part : Part) (n : ℕ) (vs : List Version) → n < length vs → next_version part n vs ≡ standing part n (with_next part n vs)
here Rows n vs h = sym (ap (λ (v : Version). v.rows) (get_or-set_same vs n _ untouched h))
here Costs n vs h = sym (ap (λ (v : Version). v.costs) (get_or-set_same vs n _ untouched h))
here Gone n vs h = refl

pub length-stays : (part : Part) (n : ℕ) (vs : List Version) → length (with_next part n vs) ≡ length vs
length-stays Rows n vs = simp length-set
length-stays Costs n vs = simp length-set
length-stays Gone n vs = refl

same-standing : (part : Part) (n : ℕ) (vs ws : List Version) → version_of vs n ≡ version_of ws n
    → standing part n vs ≡ standing part n ws
same-standing Rows n vs ws e = ap (λ (v : Version). v.rows) e
same-standing Costs n vs ws e = ap (λ (v : Version). v.costs) e
same-standing Gone n vs ws e = refl

-- ---- places of different nodes
abbrev pub IsApart : ℕ → List Touched → Type 0
IsApart count [] = Unit {0}
IsApart count (t ∷ ts) = (t.node < count) × Each (λ (u : Touched). t.node ≡ u.node → ⊥) ts × IsApart count ts

pub stay : (ts : List Touched) (n : ℕ) (vs : List Version) → Each (λ (u : Touched). n ≡ u.node → ⊥) ts
    → version_of (next_versions ts vs) n ≡ version_of vs n
stay [] n vs h = refl
stay (t ∷ ts) n vs h = stay ts n (with_next t.part t.node vs) h.1 ∙ others-stay t.part t.node n vs h.0

stand : (ts : List Touched) (vs : List Version) → IsApart (length vs) ts
    → Each (λ (u : Touch). u.version ≡ standing u.part u.node (next_versions ts vs)) (next_touches ts vs)
stand [] vs h = tt
stand (t ∷ ts) vs h = (
  here t.part t.node vs h.0
      ∙ same-standing t.part t.node (with_next t.part t.node vs) (next_versions ts (with_next t.part t.node vs))
      (sym (stay ts t.node (with_next t.part t.node vs) h.1)),
  stand ts (with_next t.part t.node vs) (subst (λ (k : ℕ). IsApart k ts) (sym (length-stays t.part t.node vs)) h.2),
)

pub more : (a b : ℕ) (ts : List Touched) → a ≤ b → IsApart a ts → IsApart b ts
more a b [] l h = tt
more a b (t ∷ ts) l h = ((let k : t.node < a = h.0 in omega (arith, k, l)), h.1, more a b ts l h.2)

-- ---- the nodes of a path
later : (p : Program) (f : ℕ → Touched) → ((m : ℕ) → (f m).node ≡ m)
    → (n s : ℕ) (above : Option ℕ) (path : List ℕ) (k : ℕ)
    → (node_at p.nodes n).stage < s → Follows p s above path → Each (λ (u : Touched). n ≡ u.node → ⊥) (map f (take k path))
later p f is n s above [] zero l h = tt
later p f is n s above [] (suc k) l h = tt
later p f is n s above (m ∷ path) zero l h = tt
later p f is n s above (m ∷ path) (suc k) l h = (
  λ e. (
      let a : (node_at p.nodes n).stage ≡ (node_at p.nodes m).stage = ap (λ (i : ℕ). (node_at p.nodes i).stage) (e ∙ is m) in
      let b : (node_at p.nodes m).stage ≡ s = h.1 in
      omega (arith, a, b, l)),
  later p f is n (suc s) (Some m) path k (omega (arith, l)) h.3,
)

path-apart : (p : Program) (f : ℕ → Touched) → ((m : ℕ) → (f m).node ≡ m)
    → (s : ℕ) (above : Option ℕ) (path : List ℕ) (k : ℕ)
    → Follows p s above path → IsApart (length p.nodes) (map f (take k path))
path-apart p f is s above [] zero h = tt
path-apart p f is s above [] (suc k) h = tt
path-apart p f is s above (n ∷ path) zero h = tt
path-apart p f is s above (n ∷ path) (suc k) h = (
  subst (λ (i : ℕ). i < length p.nodes) (sym (is n)) (passes-within is_live n p.nodes h.0),
  subst (λ (i : ℕ). Each (λ (u : Touched). i ≡ u.node → ⊥) (map f (take k path))) (sym (is n))
      (later p f is n (suc s) (Some n) path k (let b : (node_at p.nodes n).stage ≡ s = h.1 in omega (arith, b)) h.3),
  path-apart p f is (suc s) (Some n) path k h.3,
)

-- ---- what an edit touches
pub apart : (p : Program) (e : Edit) → IsProgram p → Applies p e → IsApart (length p.nodes) (touches p e)
apart p (Set name entry v) i a = (passes-within is_live (home_of p name entry) p.nodes (home-is p i name entry a).0, tt, tt)
apart p (Prob name q) i a =
    let f : Follows p 0 None (path_of p name) = (named-fits p i name a.known).path in
    subst (λ (ns : List ℕ). IsApart (length p.nodes) (map costs_of ns)) (sym (children_of_path p i (path_of p name) f))
    (path-apart p costs_of (λ m. refl) 0 None (path_of p name) (length (path_of p name) - 1) f)
apart p (Drop name) i a =
    let path : List ℕ = path_of p name in
    subst (λ (ns : List ℕ). IsApart (length p.nodes) (map (costs_or_gone p name) ns)) (take-long (length path) path (omega arith))
    (path-apart p (costs_or_gone p name) (λ m. refl) 0 None path (length path) (named-fits p i name a.known).path)
apart p (Add name parent q t) i a = path-apart p costs_of (λ m. refl) 0 None (path_of p parent) t (named-fits p i parent a.known).path

-- ---- versions of nodes that came
more-versions : (grows : Bool) (nodes : List (Option Node)) (vs : List Version) (n : ℕ) → n < length vs
    → version_of (fit_versions grows nodes vs) n ≡ version_of vs n
more-versions true nodes vs n l = get_or-append vs (replicate (length nodes - length vs) untouched) untouched n l
more-versions false nodes vs n l = refl

versions-last : (ts : List Touched) (vs : List Version) → length (next_versions ts vs) ≡ length vs
versions-last [] vs = refl
versions-last (t ∷ ts) vs = versions-last ts (with_next t.part t.node vs) ∙ length-stays t.part t.node vs

-- numbers of nodes below a count
abbrev AreBelow : ℕ → List Touched → Type 0
AreBelow count = Each (λ (t : Touched). t.node < count)

below : (count : ℕ) (ts : List Touched) → IsApart count ts → AreBelow count ts
below count [] h = tt
below count (t ∷ ts) h = (h.0, below count ts h.2)

carried : (ts : List Touched) (vs us ws : List Version) → AreBelow (length us) ts
    → ((n : ℕ) → n < length us → version_of ws n ≡ version_of us n)
    → Each (λ (u : Touch). u.version ≡ standing u.part u.node us) (next_touches ts vs)
    → Each (λ (u : Touch). u.version ≡ standing u.part u.node ws) (next_touches ts vs)
carried [] vs us ws b f h = tt
carried (t ∷ ts) vs us ws b f h = (
  h.0 ∙ sym (same-standing t.part t.node ws us (f t.node b.0)),
  carried ts (with_next t.part t.node vs) us ws b.1 f h.1,
)

pub touches_stand : TouchesStand
touches_stand p e versions i a l =
    let ts : List Touched = touches p e in
    let us : List Version = next_versions ts versions in
    let apart : IsApart (length versions) ts = more (length p.nodes) (length versions) ts l (apart p e i a) in
    carried ts versions us (raised_versions p e versions)
    (subst (λ (k : ℕ). AreBelow k ts) (sym (versions-last ts versions)) (below (length versions) ts apart))
    (more-versions (is_grown e) (after p e).nodes us)
    (stand ts versions apart)

-- ---- the number of nodes, where none comes or goes
changed-long : (n : ℕ) (f : Node → Node) (nodes : List (Option Node)) → length (change_node n f nodes) ≡ length nodes
changed-long n f [] = refl
changed-long zero f (None ∷ nodes) = refl
changed-long zero f (Some x ∷ nodes) = refl
changed-long (suc n) f (place ∷ nodes) = ap suc (changed-long n f nodes)

nodes-last : (p : Program) (e : Edit) → is_grown e ≡ false → length (after p e).nodes ≡ length p.nodes
nodes-last p (Set name entry v) g = changed-long (home_of p name entry) (with_value p entry v) p.nodes
nodes-last p (Prob name q) g = refl
nodes-last p (Drop name) g = absurd (cc)
nodes-last p (Add name parent q t) g = absurd (cc)

fitted-long : (p : Program) (e : Edit) (grows : Bool) (vs : List Version) → is_grown e ≡ grows → length p.nodes ≤ length vs
    → length (after p e).nodes ≤ length (fit_versions grows (after p e).nodes vs)
fitted-long p e true vs g l =
    let count : ℕ = length (after p e).nodes in
    omega (arith, length-append vs (replicate (count - length vs) untouched), length-replicate (count - length vs) untouched)
fitted-long p e false vs g l = let same : length (after p e).nodes ≡ length p.nodes = nodes-last p e g in omega (arith, same, l)

-- behind an edit there are versions of all nodes
pub versions_behind : (p : Program) (e : Edit) (versions : List Version) → length p.nodes ≤ length versions
    → length (after p e).nodes ≤ length (raised_versions p e versions)
versions_behind p e versions l =
    let same : length (next_versions (touches p e) versions) ≡ length versions = versions-last (touches p e) versions in
    fitted-long p e (is_grown e) (next_versions (touches p e) versions) refl (omega (arith, same, l))
