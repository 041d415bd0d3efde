-- An edit has few sweeps.
use Rattle.std.proofs.Common.{◌≡◌, ℕ, zero, suc, ◌+◌, ◌-◌, ◌*◌, ◌<◌, ◌≤◌, Bool, true, false, ◌&&◌, not, eqb, List, [], ◌∷◌, ◌++◌, map, take, length, length-append, Option, Some, None, refl, sym, ap, subst, arith}
use Rattle.std.proofs.lemmas.List.{length-map}
use Rattle.rationals.specs.Choices.{pick}
use Rattle.scen_defs.specs.Lists.{passes_at}
use Rattle.scen_defs.specs.Program.{Node, Program, View, view_of, is_live, node_at}
use Rattle.scen_defs.specs.Valid.{IsProgram, Follows}
use Rattle.cut_defs.specs.declared.kinds.Bank.{Bank}
use Rattle.cut_defs.specs.declared.kinds.Bank.TheVariants.{Plain, Cone}
use Rattle.cut_defs.specs.declared.versions.Due.{Due}
use Rattle.cut_defs.specs.declared.versions.Shift.{Shift}
use Rattle.cut_defs.specs.declared.versions.Touch.{Touch}
use Rattle.edit_defs.specs.declared.edit.Edit.{Edit}
use Rattle.edit_defs.specs.declared.edit.Edit.TheVariants.{Set, Prob, Drop, Add}
use Rattle.edit_defs.specs.declared.edit.Touched.{Touched}
use Rattle.edit_defs.specs.Applies.{Applies}
use Rattle.edit_defs.specs.Touches.{costs_of, costs_or_gone, path_of, touches}
use Rattle.edit_defs.proofs.Paths.{follows-length}
use Rattle.edit_defs.proofs.Stays.{named-fits}
use Rattle.edit_retire.specs.Dues.{rows_version, is_gone_in, carried, due_at, dues_up, dues_in, dues_from}
use Rattle.edit_retire.specs.Shifted.{shift_of}
use Rattle.edit_retire.proofs.Fronts.{children_of_path}
use Rattle.node_data.specs.declared.versions.Version.{Version}
use Rattle.pass_core.specs.Versions.{with_next, next_touches}
use Rattle.nested_method.specs.Edited.{touches_of}
use Rattle.kept_cut_laws.specs.Laws.{DuesAreFew}

-- ---- stages
-- what stands for a node that isn't live is of stage 0
no_stage : (n : ℕ) (nodes : List (Option Node)) → passes_at is_live n nodes ≡ false → (node_at nodes n).stage ≡ 0
no_stage n [] h = refl
no_stage zero (None ∷ nodes) h = refl
no_stage zero (Some node ∷ nodes) h = absurd (let no : true ≡ false = h in cc)
no_stage (suc n) (None ∷ nodes) h = no_stage n nodes h
no_stage (suc n) (Some node ∷ nodes) h = no_stage n nodes h

stages_few : (p : Program) → IsProgram p → (n : ℕ) → (view_of p).stage n < 16
stages_few p i n = go (passes_at is_live n p.nodes) refl
  where
    go : (b : Bool) → passes_at is_live n p.nodes ≡ b → (node_at p.nodes n).stage < 16
    go true l =
        let less : (node_at p.nodes n).stage < length p.periods = (i.nodes n l).stage in
        let most : length p.periods ≤ 16 = i.few_periods in
        omega (arith, less, most)
    go false l = let none : (node_at p.nodes n).stage ≡ 0 = no_stage n p.nodes l in omega (arith, none)

-- ---- touches
taken_few : (f : ℕ → Touched) (k : ℕ) (path : List ℕ) → length (map f (take k path)) ≤ length path
taken_few f zero [] = omega arith
taken_few f (suc k) [] = omega arith
taken_few f zero (n ∷ path) = omega arith
taken_few f (suc k) (n ∷ path) = let rest : length (map f (take k path)) ≤ length path = taken_few f k path in omega (arith, rest)

path_few : (p : Program) → IsProgram p → (path : List ℕ) → Follows p 0 None path → length path ≤ 16
path_few p i path f =
    let whole : 0 + length path ≡ length p.periods = follows-length p 0 None path f in
    let most : length p.periods ≤ 16 = i.few_periods in
    omega (arith, whole, most)

touches_few : (p : Program) (e : Edit) → IsProgram p → Applies p e → length (touches p e) ≤ 16
touches_few p (Set name entry v) i a = omega arith
touches_few p (Prob name q) i a =
    let f : Follows p 0 None (path_of p name) = (named-fits p i name a.known).path in
    subst (λ (ns : List ℕ). length (map costs_of ns) ≤ 16) (sym (children_of_path p i (path_of p name) f))
    (let some : length (map costs_of (take (length (path_of p name) - 1) (path_of p name))) ≤ length (path_of p name) = taken_few costs_of (length (path_of p name) - 1) (path_of p name) in
    let few : length (path_of p name) ≤ 16 = path_few p i (path_of p name) f in
    omega (arith, some, few))
touches_few p (Drop name) i a =
    let few : length (path_of p name) ≤ 16 = path_few p i (path_of p name) (named-fits p i name a.known).path in
    let same : length (map (costs_or_gone p name) (path_of p name)) ≡ length (path_of p name) = length-map (path_of p name) (costs_or_gone p name) in
    omega (arith, few, same)
touches_few p (Add name parent q t) i a =
    let some : length (map costs_of (take t (path_of p parent))) ≤ length (path_of p parent) = taken_few costs_of t (path_of p parent) in
    let few : length (path_of p parent) ≤ 16 = path_few p i (path_of p parent) (named-fits p i parent a.known).path in
    omega (arith, some, few)

as_many : (ts : List Touched) (vs : List Version) → length (next_touches ts vs) ≡ length ts
as_many [] vs = refl
as_many (t ∷ ts) vs = ap (λ (n : ℕ). suc n) (as_many ts (with_next t.part t.node vs))

-- ---- dues
one_due : (all : List Touch) (bank : Bank) (t : Touch) (s : Option Shift) (n : ℕ) → length (due_at all bank t s n) ≤ 1
one_due all bank t s n = go (not (eqb n 0) && not (is_gone_in n all))
  where
    go : (there : Bool) → length {A = Due} (pick there (record { bank = bank; pool = n; touch = t; shift = carried bank t s } ∷ []) []) ≤ 1
    go true = omega arith
    go false = omega arith

upwards_few : (v : View) (all : List Touch) (bank : Bank) (t : Touch) (s : Option Shift) (k n : ℕ) → length (dues_up v all bank t s k n) ≤ k
upwards_few v all bank t s zero n = omega arith
upwards_few v all bank t s (suc k) n =
    let one : length (due_at all bank t s n) ≤ 1 = one_due all bank t s n in
    let rest : length (dues_up v all bank t s k (v.parent n)) ≤ k = upwards_few v all bank t s k (v.parent n) in
    let both : length (due_at all bank t s n ++ dues_up v all bank t s k (v.parent n)) ≡ length (due_at all bank t s n) + length (dues_up v all bank t s k (v.parent n)) =
    length-append (due_at all bank t s n) (dues_up v all bank t s k (v.parent n)) in
    omega (arith, one, rest, both)

dues_few : (v : View) (all : List Touch) (s : Option Shift) → ((n : ℕ) → v.stage n < 16) → (ts : List Touch) → length (dues_from v all s ts) ≤ 32 * length ts
dues_few v all s low [] = omega arith
dues_few v all s low (t ∷ ts) =
    let stage : v.stage t.node < 16 = low t.node in
    let plain : length (dues_in v all Plain t s) ≤ suc (v.stage t.node) = upwards_few v all Plain t s (suc (v.stage t.node)) t.node in
    let cone : length (dues_in v all Cone t s) ≤ suc (v.stage t.node) = upwards_few v all Cone t s (suc (v.stage t.node)) t.node in
    let rest : length (dues_from v all s ts) ≤ 32 * length ts = dues_few v all s low ts in
    let first : length (dues_in v all Plain t s ++ dues_in v all Cone t s) ≡ length (dues_in v all Plain t s) + length (dues_in v all Cone t s) =
    length-append (dues_in v all Plain t s) (dues_in v all Cone t s) in
    let all_of : length ((dues_in v all Plain t s ++ dues_in v all Cone t s) ++ dues_from v all s ts) ≡ length (dues_in v all Plain t s ++ dues_in v all Cone t s) + length (dues_from v all s ts) =
    length-append (dues_in v all Plain t s ++ dues_in v all Cone t s) (dues_from v all s ts) in
    omega (arith, stage, plain, cone, rest, first, all_of)

pub dues_are_few : DuesAreFew
dues_are_few p e versions i a =
    let ts : List Touch = touches_of p e versions in
    let many : length (touches_of p e versions) ≡ length (touches p e) = as_many (touches p e) versions in
    let few : length (touches p e) ≤ 16 = touches_few p e i a in
    let most : length (dues_from (view_of p) (touches_of p e versions) (shift_of p e (rows_version (touches_of p e versions))) (touches_of p e versions)) ≤ 32 * length (touches_of p e versions) =
    dues_few (view_of p) (touches_of p e versions) (shift_of p e (rows_version (touches_of p e versions))) (stages_few p i) (touches_of p e versions) in
    omega (arith, many, few, most)
