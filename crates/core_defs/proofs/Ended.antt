-- Nothing comes behind ENDATA.
use Rattle.std.proofs.Common.{◌≡◌, ◌∙◌, ◌++◌, ◌&&◌, ◌||◌, ap, Bool, true, false, List, [], ◌∷◌, refl, sym, append_assoc, append-nil}
use Rattle.smps_words.specs.Line.{TextLine}
use Rattle.core_defs.specs.declared.section.Section.{Section}
use Rattle.core_defs.specs.declared.section.Section.TheVariants as sections
use Rattle.core_defs.specs.Lines.{section_behind, section_after, last_section, has_after, has_section, fields_in, data_in, data_of}
use Rattle.core_defs.specs.Section.{same_section, is_end}
use Rattle.core_defs.proofs.Gathered.{data_on}
use Rattle.core_defs.proofs.LineLemmas.{or_assoc, or_false, made_same}
use Rattle.core_defs.proofs.PairLemmas.{and_false}

or_true : (b : Bool) → (b || true) ≡ true
or_true true = refl
or_true false = refl

end_stays : (section : Section) (lines : List TextLine) → is_end section ≡ true → section_after section lines ≡ section
end_stays section [] end = refl
end_stays section (line ∷ lines) end =
    let here : section_behind section line ≡ section = rw end refl in
    ap (λ at. section_after at lines) here ∙ end_stays section lines end

after_append : (before : Section) (lines more : List TextLine) → section_after before (lines ++ more) ≡ section_after (section_after before lines) more
after_append before [] more = refl
after_append before (line ∷ lines) more = after_append (section_behind before line) lines more

end_more : (behind more : List TextLine) → is_end (last_section behind) ≡ true → last_section (behind ++ more) ≡ last_section behind
end_more behind more end = after_append sections.Start behind more ∙ end_stays (last_section behind) more end

end_is : (section : Section) → is_end section ≡ true → section ≡ sections.End
end_is sections.Start e = cc
end_is sections.Name e = cc
end_is sections.Rows e = cc
end_is sections.Columns e = cc
end_is sections.Rhs e = cc
end_is sections.Ranges e = cc
end_is sections.Bounds e = cc
end_is sections.End e = refl

ended_has : (lines : List TextLine) → has_after sections.Columns sections.End lines ≡ false
ended_has [] = refl
ended_has (line ∷ lines) = ap (λ here. here || has_after sections.Columns sections.End lines) (and_false line.header) ∙ ended_has lines

ended_data : (wanted : Section) (lines : List TextLine) → same_section sections.End wanted ≡ false → data_in wanted sections.End lines ≡ []
ended_data wanted [] other = refl
ended_data wanted (line ∷ lines) other =
    let none : fields_in wanted sections.End line ≡ [] = rw (other, or_true line.header) refl in
    ap (λ front. front ++ data_in wanted sections.End lines) none ∙ ended_data wanted lines other

has_append : (wanted before : Section) (lines more : List TextLine) → has_after wanted before (lines ++ more) ≡ (has_after wanted before lines || has_after wanted (section_after before lines) more)
has_append wanted before [] more = refl
has_append wanted before (line ∷ lines) more =
    let here : Bool = line.header && same_section (section_behind before line) wanted in
    ap (λ b. here || b) (has_append wanted (section_behind before line) lines more) ∙ or_assoc here (has_after wanted (section_behind before line) lines) (has_after wanted (section_after (section_behind before line) lines) more)

data_append : (wanted before : Section) (lines more : List TextLine) → data_in wanted before (lines ++ more) ≡ data_in wanted before lines ++ data_in wanted (section_after before lines) more
data_append wanted before [] more = refl
data_append wanted before (line ∷ lines) more =
    ap (λ rest. fields_in wanted before line ++ rest) (data_append wanted (section_behind before line) lines more)
    ∙ sym (append_assoc (fields_in wanted before line) (data_in wanted (section_behind before line) lines) (data_in wanted (section_after (section_behind before line) lines) more))

has_more : (behind more : List TextLine) → is_end (last_section behind) ≡ true → has_section sections.Columns (behind ++ more) ≡ has_section sections.Columns behind
has_more behind more end =
    has_append sections.Columns sections.Start behind more ∙ ap (λ at. has_section sections.Columns behind || has_after sections.Columns at more) (end_is (last_section behind) end)
    ∙ ap (λ b. has_section sections.Columns behind || b) (ended_has more) ∙ or_false (has_section sections.Columns behind)

data_more : (wanted : Section) (behind more : List TextLine) → is_end (last_section behind) ≡ true → same_section sections.End wanted ≡ false → data_of wanted (behind ++ more) ≡ data_of wanted behind
data_more wanted behind more end other =
    data_append wanted sections.Start behind more ∙ ap (λ at. data_of wanted behind ++ data_in wanted at more) (end_is (last_section behind) end) ∙ ap (λ rest. data_of wanted behind ++ rest) (ended_data wanted more other) ∙ append-nil (data_of wanted behind)

-- the lines behind ENDATA state nothing
pub data_behind : (read rest : List TextLine) → is_end (last_section read) ≡ true → data_on (read ++ rest) ≡ data_on read
data_behind read rest end =
    made_same _ _ _ _ _ _ _ _ _ _ _ _ _ _ (end_more read rest end) (has_more read rest end) (data_more sections.Rows read rest end refl) (data_more sections.Columns read rest end refl)
    (data_more sections.Rhs read rest end refl) (data_more sections.Ranges read rest end refl) (data_more sections.Bounds read rest end refl)
