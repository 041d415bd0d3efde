-- The names of the periods are fields.
use Rattle.std.proofs.Common.{sym, subst, ℕ, Bool, true, false, List, [], ◌∷◌, flat_map, if◌then◌else◌}
use Rattle.std.specs.List.{AllByRecursion}
use Rattle.smps_words.specs.Line.{TextLine, reading_of}
use Rattle.smps_words.specs.Field.{IsField}
use Rattle.smps_words.proofs.FieldLemmas.{AreFields, HasFields, text_fields}
use Rattle.reader_defs.specs.Placed.{Placed, placed_on, placed_from}
use Rattle.core_defs.specs.declared.program.Core.{Core}
use Rattle.time_defs.specs.declared.section.TimeSection.{TimeSection}
use Rattle.time_defs.specs.declared.section.TimeSection.TheVariants as sections
use Rattle.time_defs.specs.Section.{Place, data_in}
use Rattle.time_defs.specs.Stated.{period_at, stated}
use Rattle.tree_build.specs.Law.{ReadPeriodsAreNamed}
use Rattle.scen_defs.specs.Lists.{Each}
use Rattle.build_defs.proofs.EachLemmas.{each_append}

-- ---- the names of the periods

abbrev HasPlaced : Placed Place → Type 0
HasPlaced line = AreFields 6 line.fields

placed_fields : (behind : Place → List (List ℕ) → Place) (at : Place) (lines : List TextLine) → AllByRecursion HasFields lines → Each HasPlaced (placed_from behind at lines)
placed_fields behind at [] all = tt
placed_fields behind at (line ∷ lines) all =
    each_append HasPlaced (placed_on at line) (placed_from behind (if line.header then behind at line.fields else at) lines) (go line.header) (placed_fields behind (if line.header then behind at line.fields else at) lines all.1)
  where
    go : (b : Bool) → Each HasPlaced (if b then [] else record { at = at; fields = line.fields } ∷ [])
    go true = tt
    go false = (all.0, tt)

named_at : (section : TimeSection) (explicit : Bool) (fields : List (List ℕ)) → AreFields 6 fields → Each IsField (period_at section explicit fields)
named_at sections.Periods true (name ∷ []) h = (h.0, tt)
named_at sections.Periods true [] h = tt
named_at sections.Periods true (_ ∷ _ ∷ _) h = tt
named_at sections.Periods false (_ ∷ _ ∷ name ∷ []) h = (h.1.1.0, tt)
named_at sections.Periods false [] h = tt
named_at sections.Periods false (_ ∷ []) h = tt
named_at sections.Periods false (_ ∷ _ ∷ []) h = tt
named_at sections.Periods false (_ ∷ _ ∷ _ ∷ _ ∷ _) h = tt
named_at sections.Start explicit fields h = tt
named_at sections.Time explicit fields h = tt
named_at sections.Rows explicit fields h = tt
named_at sections.Columns explicit fields h = tt
named_at sections.End explicit fields h = tt

names_of : (lines : List (Placed Place)) → Each HasPlaced lines → Each IsField (flat_map (λ (line : Placed Place). period_at line.at.section line.at.explicit line.fields) lines)
names_of [] all = tt
names_of (line ∷ lines) all =
    each_append IsField (period_at line.at.section line.at.explicit line.fields) (flat_map (λ (line : Placed Place). period_at line.at.section line.at.explicit line.fields) lines) (named_at line.at.section line.at.explicit line.fields all.0) (names_of lines all.1)

pub period_fields : (core : Core) (text : List ℕ) → Each IsField (stated core (reading_of 0 text).lines).names
period_fields core text = names_of (data_in (reading_of 0 text).lines) (placed_fields _ _ (reading_of 0 text).lines (text_fields text))

pub read_periods_are_named : ReadPeriodsAreNamed
read_periods_are_named core text p means = subst (Each IsField) (sym means.names) (period_fields core text)
