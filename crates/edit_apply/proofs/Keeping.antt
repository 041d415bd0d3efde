-- What an edit leaves in place keeps the laws of programs.
use Rattle.std.proofs.Common.{◌≡◌, ℕ, ◌+◌, ◌<◌, ◌^◌, ◌++◌, List, [], length, take, drop, append-nil, arith, Option, None, Result, Ok, Err, OnOk, OnErr, refl, sym, subst, ap, ◌∙◌}
use Rattle.std.proofs.lemmas.List.{drop_all, take_all}
use Rattle.rationals.specs.Rational.{ℚ}
use Rattle.smps_words.specs.declared.entry.Entry.{Entry}
use Rattle.scen_defs.specs.declared.program.Node.{Node as NodeOf}
use Rattle.scen_defs.specs.Program.{Node, Scenario, Program, nodes_content}
use Rattle.smps_words.specs.Field.{IsField}
use Rattle.scen_defs.specs.Valid.{IsProgram}
use Rattle.edit_defs.specs.declared.edit.Edit.{Edit}
use Rattle.edit_defs.specs.declared.edit.Edit.TheVariants.{Set, Prob, Drop, Add}
use Rattle.edit_defs.specs.After.{after, change_node, home_of, with_value}
use Rattle.edit_defs.specs.Applies.{Applies, IsSet}
use Rattle.edit_defs.specs.Causes.{refused}
use Rattle.edit_defs.proofs.Causes.{prob_applies, drop_applies, add_applies}
use Rattle.edit_defs.proofs.Programs.{edits_keep_programs}
use Rattle.edit_apply.specs.Kept.{kept_from}
use Rattle.edit_apply.specs.Rest.{KeepsWith, add_left}
use Rattle.edit_apply.specs.Told.{prob_told, drop_told, marks_by}
use Rattle.edit_apply.proofs.Ends.{IsNew, add_after, add_left_is, drop_ok, prob_ok}

kept : (p q : Program) (e : Edit) → IsProgram p → Applies p e → q ≡ after p e → IsProgram q
kept p q e keeps applies is = subst IsProgram (sym is) (edits_keep_programs p e keeps applies)

-- the program with these nodes
abbrev with_nodes : Program → List (Option Node) → Program
with_nodes p nodes = record p { nodes = nodes }

set_keeps : (p : Program) (name : List ℕ) (entry : Entry) (v : ℚ) (nodes : List (Option Node)) → IsProgram p → IsSet p name entry
    → nodes ≡ change_node (home_of p name entry) (with_value p entry v) p.nodes → IsProgram (with_nodes p nodes)
set_keeps p name entry v nodes keeps applies is = kept p (with_nodes p nodes) (Set name entry v) keeps applies (ap (with_nodes p) is)

-- the node of an entry is changed
pub change_keeps : (p : Program) (name : List ℕ) (entry : Entry) (v : ℚ) (place : ℕ) (f : Node → Node) (old new : List (Option Node)) → IsProgram p → IsSet p name entry
    → place ≡ home_of p name entry → f ≡ with_value p entry v → old ≡ p.nodes → new ≡ change_node place f old → IsProgram (record p { nodes = new })
change_keeps p name entry v place f old new keeps applies here change same is = set_keeps p name entry v new keeps applies
    (is ∙ ap (λ k. change_node k f old) here ∙ ap (λ (g : Node → Node). change_node (home_of p name entry) g old) change ∙ ap (change_node (home_of p name entry) (with_value p entry v)) same)

-- and where memory is wanting none is
pub change_or_not_keeps : {A E : Type 0} (r : Result A E) (p : Program) (name : List ℕ) (entry : Entry) (v : ℚ) (place : ℕ) (f : Node → Node) (old new : List (Option Node)) → IsProgram p → IsSet p name entry
    → place ≡ home_of p name entry → f ≡ with_value p entry v → old ≡ p.nodes → OnOk r (new ≡ change_node place f old) → OnErr r (new ≡ old) → IsProgram (record p { nodes = new })
change_or_not_keeps (Ok x) p name entry v place f old new keeps applies here change same is stays = change_keeps p name entry v place f old new keeps applies here change same is
change_or_not_keeps (Err e) p name entry v place f old new keeps applies here change same is stays = subst (λ (ns : List (Option Node)). IsProgram (with_nodes p ns)) (sym (stays ∙ same)) keeps

-- nodes that are changed as a slice are put back
pub put_back : (p : Program) (k : ℕ) (new old : List (Option NodeOf)) → length new ≡ length old → k ≡ length old → IsProgram (record p { nodes = nodes_content new })
    → IsProgram (record p { nodes = nodes_content (take k (new ++ drop (length new) old)) })
put_back p k new old same long keeps =
    let none : drop (length new) old ≡ [] = drop_all (length new) old (omega (arith, same)) in
    let is : take k (new ++ drop (length new) old) ≡ new =
    ap (λ more. take k (new ++ more)) none ∙ ap (λ (ns : List (Option NodeOf)). take k ns) (append-nil new) ∙ take_all k new (omega (arith, same, long)) in
    subst (λ (ns : List (Option NodeOf)). IsProgram (with_nodes p (nodes_content ns))) (sym is) keeps

pub prob_keeps : (p : Program) (name : List ℕ) (q : ℚ) (ss : List Scenario) → IsProgram p → refused p (Prob name q) ≡ None → prob_told p name q ≡ Ok ss → IsProgram (record p { scenarios = ss })
prob_keeps p name q ss keeps none told = kept p (let r : Program = record p { scenarios = ss } in r) (Prob name q) keeps (prob_applies p name q none) (prob_ok p name q ss told)

pub drop_keeps : (p : Program) (name : List ℕ) (ss : List Scenario) → IsProgram p → refused p (Drop name) ≡ None → drop_told p name ≡ Ok ss → IsProgram (record p { nodes = kept_from (marks_by ss p.nodes) 0 p.nodes; scenarios = ss })
drop_keeps p name ss keeps none told = kept p (let r : Program = record p { nodes = kept_from (marks_by ss p.nodes) 0 p.nodes; scenarios = ss } in r) (Drop name) keeps (drop_applies p name none) (drop_ok p name ss told)

pub add_keeps : (p : Program) (name parent : List ℕ) (q : ℚ) (t : ℕ) (new : Scenario) (nodes : List (Option Node)) → IsProgram p → IsField name → length p.nodes + 16 < 2 ^ 32
    → IsNew p name parent q t new nodes → refused p (Add name parent q t) ≡ add_left p (Add name parent q t) → KeepsWith p new nodes
add_keeps p name parent q t new nodes keeps field room is left ss rest told =
    let r : Program = record p { nodes = p.nodes ++ nodes; scenarios = ss } in
    let none : refused p (Add name parent q t) ≡ None = left ∙ sym (add_left_is p name parent q t new nodes is) ∙ rest in
    kept p r (Add name parent q t) keeps (add_applies p name parent q t room field none) (add_after p r name parent q t new nodes is told refl)
