-- What a core keeps, in the words of programs.
use Rattle.std.proofs.Common.{◌≡◌, ◌∙◌, ℕ, suc, ◌<◌, ◌^◌, true, false, List, [], ◌∷◌, map, length, get_or, All, ap, arith}
use Rattle.std.proofs.lemmas.List.Elements.{All-head, All-tail}
use Rattle.smps_words.specs.Names.{same_name, IsNumbered}
use Rattle.smps_words.proofs.NumberedNames.{same_name_refl}
use Rattle.core_defs.specs.declared.parts.RowDef.{RowDef}
use Rattle.core_defs.specs.declared.parts.ColumnDef.{ColumnDef}
use Rattle.core_defs.specs.declared.program.Core.{Core}
use Rattle.core_defs.specs.Core.{IsCore, row_names, column_names}
use Rattle.core_defs.proofs.NameLemmas.{At, place_at}
use Rattle.scen_defs.specs.Lists.{Each}
use Rattle.rationals.specs.Intervals.{InOrder}
use Rattle.smps_words.specs.Field.{IsField}
use Rattle.scen_defs.specs.Valid.{Differ, AreNames}

-- fewer than 2^32 rows and columns, of different names that are fields, and no lower bound above its upper one
pub record CoreFits (core : Core) : Type 0 where
  pub few_rows : length core.rows.items < 2 ^ 32
  pub few_columns : length core.columns.items < 2 ^ 32
  pub rows : AreNames (map (λ (r : RowDef). r.name) core.rows.items)
  pub columns : AreNames (map (λ (c : ColumnDef). c.name) core.columns.items)
  pub bounds : Each (λ (c : ColumnDef). InOrder c.lower c.upper) core.columns.items

each_of : {A : Type 0} (P : A → Type 0) (xs : List A) → All P xs → Each P xs
each_of P [] h = tt
each_of P (x ∷ xs) h = (All-head P x xs h, each_of P xs (All-tail P x xs h))

each_place : {A : Type 0} (P : A → Type 0) (d : A) (xs : List A) → ((i : ℕ) → i < length xs → P (get_or xs i d)) → Each P xs
each_place P d [] h = tt
each_place P d (x ∷ xs) h = (h 0 (omega arith), each_place P d xs (λ i b. h (suc i) (omega arith)))

apart : (one other : List ℕ) → same_name one other ≡ false → one ≡ other → ⊥
apart one other differ same = let yes : same_name one other ≡ true = ap (λ n. same_name n other) same ∙ same_name_refl other in absurd (cc)

-- names that stand at their own places differ
differ_at : (names : List (List ℕ)) → ((i : ℕ) → i < length names → At names i (get_or names i [])) → Differ names
differ_at [] h = tt
differ_at (name ∷ names) h = (
  each_place (λ (other : List ℕ). other ≡ name → ⊥) [] names (λ i b. apart (get_or names i []) name (h (suc i) (omega arith)).0),
  differ_at names (λ i b. (h (suc i) (omega arith)).1),
)

-- names that are each found at their own place differ
pub numbered_differ : (names : List (List ℕ)) → IsNumbered names → Differ names
numbered_differ names numbered = differ_at names (λ i b. place_at names (get_or names i []) i (numbered.own i b))

are_names : (names : List (List ℕ)) → IsNumbered names → All IsField names → AreNames names
are_names names numbered fields = record { fields = each_of IsField names fields; differ = numbered_differ names numbered }

pub core_fits : (core : Core) → CoreFits core
core_fits core = let h : IsCore core.rows.items core.columns.items = core.keeps in record {
  few_rows = h.few_rows;
  few_columns = h.few_columns;
  rows = are_names (row_names core.rows.items) h.rows_differ h.row_fields;
  columns = are_names (column_names core.columns.items) h.columns_differ h.column_fields;
  bounds = each_of (λ (c : ColumnDef). InOrder c.lower c.upper) core.columns.items h.in_order;
}
