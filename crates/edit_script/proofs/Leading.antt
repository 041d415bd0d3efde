-- Edits that are allowed lead from program to program.
use Rattle.std.proofs.Common.{◌≡◌, ◌∙◌, ap, refl, sym, subst, ℕ, suc, ◌+◌, ◌≤◌, List, [], ◌∷◌, ◌++◌, length, Option, None, arith}
use Rattle.std.proofs.lemmas.Grind.{common_steps}
use Rattle.scen_defs.specs.declared.program.Node.{Node as NodeOf}
use Rattle.scen_defs.specs.Program.{Program, nodes_content}
use Rattle.edit_defs.specs.declared.edit.Edit.{Edit}
use Rattle.edit_defs.specs.declared.edit.Act.{Act}
use Rattle.edit_defs.specs.declared.edit.Act.TheVariants.{Change, Solve}
use Rattle.edit_defs.specs.declared.edit.Item.{Item}
use Rattle.edit_defs.specs.After.{after}
use Rattle.edit_defs.specs.Causes.{Asks, refused}
use Rattle.edit_script.specs.Allowed.{IsAllowed, AreAllowed, program_after}
use Rattle.edit_script.specs.Drafts.{Leads}
use Rattle.edit_script.specs.Script.{edit_item, report_item}

-- by the act of the first item
abbrev AllowedBy : Program → List Item → Act → Type 0
AllowedBy p items act = elim act [ Change e ↦ IsAllowed p e × AreAllowed (after p e) items | Solve ↦ AreAllowed p items ]

abbrev after_by : Program → List Item → Act → Program
after_by p items act = elim act [ Change e ↦ program_after (after p e) items | Solve ↦ program_after p items ]

both : (p : Program) (items more : List Item) → AreAllowed p items → AreAllowed (program_after p items) more → AreAllowed p (items ++ more)
both p [] more a b = b
both p (item ∷ items) more a b = go item.act (λ q a b. both q items more a b) a b
  where
    go : (act : Act) → ((q : Program) → AreAllowed q items → AreAllowed (program_after q items) more → AreAllowed q (items ++ more))
        → AllowedBy p items act → AreAllowed (after_by p items act) more → AllowedBy p (items ++ more) act
    go (Change e) rest a b = (a.0, rest (after p e) a.1 b)
    go Solve rest a b = rest p a b

behind : (p : Program) (items more : List Item) → program_after p (items ++ more) ≡ program_after (program_after p items) more
behind p [] more = refl
behind p (item ∷ items) more = go item.act (λ q. behind q items more)
  where
    go : (act : Act) → ((q : Program) → program_after q (items ++ more) ≡ program_after (program_after q items) more)
        → after_by p (items ++ more) act ≡ program_after (after_by p items act) more
    go (Change e) rest = rest (after p e)
    go Solve rest = rest p

pub leads_start : (p q : Program) (items : List Item) → items ≡ [] → q ≡ p → Leads p items q
leads_start p q items none is = record {
  allowed = subst (λ (xs : List Item). AreAllowed p xs) (sym none) tt;
  reaches = ap (λ (xs : List Item). program_after p xs) none ∙ sym is;
}

pub leads_edit : (start p q : Program) (items : List Item) (work : ℕ) (e : Edit) → length p.nodes ≤ 1000000 → Asks p e → refused p e ≡ None → q ≡ after p e
    → Leads start items p → Leads start (items ++ edit_item work e ∷ []) q
leads_edit start p q items work e places asks none is l = record {
  allowed = both start items (edit_item work e ∷ []) l.allowed (subst (λ (r : Program). AreAllowed r (edit_item work e ∷ [])) (sym l.reaches) (record { places = places; asks = asks; no_cause = none }, tt));
  reaches = behind start items (edit_item work e ∷ []) ∙ ap (λ (r : Program). after r e) l.reaches ∙ sym is;
}

pub leads_report : (start p : Program) (items : List Item) → Leads start items p → Leads start (items ++ report_item ∷ []) p
leads_report start p items l = record {
  allowed = both start items (report_item ∷ []) l.allowed tt;
  reaches = behind start items (report_item ∷ []) ∙ l.reaches;
}

pub nodes_length : (nodes : List (Option NodeOf)) → length (nodes_content nodes) ≡ length nodes
nodes_length [] = refl
nodes_length (node ∷ nodes) = ap suc (nodes_length nodes)

pub one_more : (xs ys : List Item) (item : Item) (n : ℕ) → ys ≡ xs ++ item ∷ [] → length xs ≤ n → length ys ≤ n + 1
one_more xs ys item n is few = subst (λ (zs : List Item). length zs ≤ n + 1) (sym is) (grind (arith, common_steps, few))
