-- What reading line by line gives is what the lines mean together.
use Rattle.std.proofs.Common.{◌≡◌, ◌∙◌, ap, ℕ, Bool, true, false, List, [], ◌∷◌, ◌++◌, Result, Ok, Err, refl, sym, subst, if◌then◌else◌}
use Rattle.std.specs.Prelude.{filter, cond}
use Rattle.smps_words.specs.Line.{TextLine, reading_of}
use Rattle.refusals.specs.declared.cause.Cause.{Cause}
use Rattle.refusals.specs.declared.cause.Refusal.{Refusal}
use Rattle.refusals.specs.Results.{on_line}
use Rattle.core_defs.specs.declared.program.Core.{Core}
use Rattle.reader_defs.specs.Placed.{Placed, placed_from}
use Rattle.reader_defs.specs.Reader.{read_from}
use Rattle.time_defs.specs.Means.{Stages}
use Rattle.stoch_defs.specs.declared.section.Mode.{Mode}
use Rattle.stoch_defs.specs.declared.section.StochSection.{StochSection}
use Rattle.stoch_defs.specs.declared.section.StochSection.TheVariants as sections
use Rattle.time_defs.specs.Step.{at_line}
use Rattle.stoch_defs.specs.File.{stoch_file}
use Rattle.stoch_defs.specs.Finish.{random_of}
use Rattle.stoch_defs.specs.Groups.{behind, entered_if, is_for_cases, is_for_scenarios, Group, with_line, grouped}
use Rattle.stoch_defs.specs.Means.{meant_by}
use Rattle.stoch_defs.specs.Random.{Random}
use Rattle.stoch_defs.specs.Section.{Place, section_of, is_end, entered}
use Rattle.stoch_defs.specs.Stated.{Stated, nothing_stated}
use Rattle.stoch_defs.specs.Step.{enter, header_line, data_line}
use Rattle.stoch_defs.proofs.StepParts.{header_parts}
use Rattle.stoch_laws.proofs.Cases.{no_cases}
use Rattle.stoch_laws.proofs.Sums.{Ready, random_is}
use Rattle.stoch_laws.proofs.Work.{Work, Tie, ready, closed_place, closed_idle, tied}
use Rattle.stoch_laws.proofs.Lines.{After, line_at, indep_after, block_after, branch_after}
use Rattle.stoch_laws.specs.Law.{StochMeaningLaw}

-- the data lines of some sections
abbrev lines_of : (StochSection → Bool) → List (Placed Place) → List (Placed Place)
lines_of wanted lines = filter (λ (line : Placed Place). wanted line.at.section) lines

-- a line, where it is a data line
abbrev shown : Place → Bool → List (List ℕ) → List (Placed Place)
shown at header fields = if header then [] else line_at at fields ∷ []

abbrev next_place : Place → Bool → List (List ℕ) → Place
next_place at header fields = if header then behind at fields else at

-- behind a line: the groups that the tables say then
record Stepped (core : Core) (p : Stages) (cs scs : List Group) (s t : Stated) (header : Bool) (fields : List (List ℕ)) : Type 0 where
  pub cases : List Group
  pub scenarios : List Group
  pub tie : Tie core p cases scenarios t
  pub place : t.place ≡ next_place s.place header fields
  pub more_cases : (rest : List (Placed Place)) → grouped cs (lines_of is_for_cases (shown s.place header fields ++ rest)) ≡ grouped cases (lines_of is_for_cases rest)
  pub more_scenarios : (rest : List (Placed Place)) → grouped scs (lines_of is_for_scenarios (shown s.place header fields ++ rest)) ≡ grouped scenarios (lines_of is_for_scenarios rest)

-- ---- one line

-- the groups with a line, where it is of a wanted section
abbrev grouped_by : List Group → Placed Place → List (Placed Place) → Bool → List Group
grouped_by groups line rest b = grouped groups (cond b (line ∷ rest) rest)

for_cases : (core : Core) (p : Stages) (cs scs : List Group) (s t : Stated) (fields : List (List ℕ)) (section : StochSection) → s.place.section ≡ section → is_for_cases section ≡ true → is_for_scenarios section ≡ false →
    After core p (with_line cs (line_at s.place fields)) scs s t → Stepped core p cs scs s t false fields
for_cases core p cs scs s t fields section is inside outside after = record {
  cases = with_line cs (line_at s.place fields);
  scenarios = scs;
  tie = after.tie;
  place = after.place;
  more_cases = λ rest. ap (grouped_by cs (line_at s.place fields) (lines_of is_for_cases rest)) (ap is_for_cases is ∙ inside);
  more_scenarios = λ rest. ap (grouped_by scs (line_at s.place fields) (lines_of is_for_scenarios rest)) (ap is_for_scenarios is ∙ outside);
}

for_scenarios : (core : Core) (p : Stages) (cs scs : List Group) (s t : Stated) (fields : List (List ℕ)) → s.place.section ≡ sections.Scenarios →
    After core p cs (with_line scs (line_at s.place fields)) s t → Stepped core p cs scs s t false fields
for_scenarios core p cs scs s t fields is after = record {
  cases = cs;
  scenarios = with_line scs (line_at s.place fields);
  tie = after.tie;
  place = after.place;
  more_cases = λ rest. ap (grouped_by cs (line_at s.place fields) (lines_of is_for_cases rest)) (ap is_for_cases is);
  more_scenarios = λ rest. ap (grouped_by scs (line_at s.place fields) (lines_of is_for_scenarios rest)) (ap is_for_scenarios is);
}

data_stepped : (core : Core) (p : Stages) (cs scs : List Group) (s t : Stated) (fields : List (List ℕ)) (section : StochSection) → s.place.section ≡ section → Tie core p cs scs s → data_line core p section s fields ≡ Ok t → Stepped core p cs scs s t false fields
data_stepped core p cs scs s t fields sections.Indep is tie e = for_cases core p cs scs s t fields sections.Indep is refl refl (indep_after core p cs scs s t fields is tie e)
data_stepped core p cs scs s t fields sections.Blocks is tie e = for_cases core p cs scs s t fields sections.Blocks is refl refl (block_after core p cs scs s t fields is tie e)
data_stepped core p cs scs s t fields sections.Scenarios is tie e = for_scenarios core p cs scs s t fields is (branch_after core p cs scs s t fields is tie e)
data_stepped core p cs scs s t fields sections.Start is tie e = cc
data_stepped core p cs scs s t fields sections.Stoch is tie e = cc
data_stepped core p cs scs s t fields sections.End is tie e = cc

entered_place : (s : Stated) (mode : Mode) (next : StochSection) → (enter s mode next).place ≡ entered s.place mode next
entered_place s mode next = ap (λ at. entered at mode next) (closed_place s)

header_stepped : (core : Core) (p : Stages) (cs scs : List Group) (s t : Stated) (fields : List (List ℕ)) → is_end s.place.section ≡ false → Tie core p cs scs s → header_line s fields ≡ Ok t → Stepped core p cs scs s t true fields
header_stepped core p cs scs s t fields open_ tie e =
    let h = header_parts s t fields open_ e in
    let r = ready core p cs scs s tie in
    let u : Stated = enter s h.mode h.next in
    let all : Ready core p cs scs u = record { cases = r.cases; sets = r.sets; names = r.names; heads = r.heads; nodes = r.nodes; quiet = r.quiet } in
    record {
      cases = cs;
      scenarios = scs;
      tie = subst (Tie core p cs scs) (sym h.is) (tied core p cs scs u all (closed_idle s));
      place = ap (λ (x : Stated). x.place) h.is ∙ entered_place s h.mode h.next ∙ sym h.place;
      more_cases = λ rest. refl;
      more_scenarios = λ rest. refl;
    }

stepped : (core : Core) (p : Stages) (cs scs : List Group) (s t : Stated) (header : Bool) (fields : List (List ℕ)) → is_end s.place.section ≡ false → Tie core p cs scs s →
    (if header then header_line s fields else data_line core p s.place.section s fields) ≡ Ok t → Stepped core p cs scs s t header fields
stepped core p cs scs s t true fields open_ tie e = header_stepped core p cs scs s t fields open_ tie e
stepped core p cs scs s t false fields open_ tie e = data_stepped core p cs scs s t fields s.place.section refl tie e

-- ---- behind ENDATA

ends : (at : Place) (b : Bool) → is_end at.section ≡ b → b ≡ true → (fields : List (List ℕ)) → behind at fields ≡ at
ends at b e is [] = refl
ends at b e is (word ∷ rest) = ap (λ (last : Bool). if last then at else entered_if at (word ∷ rest) (section_of word)) (e ∙ is)

end_section : (section : StochSection) → is_end section ≡ true → section ≡ sections.End
end_section sections.End e = refl
end_section sections.Start e = cc
end_section sections.Stoch e = cc
end_section sections.Indep e = cc
end_section sections.Blocks e = cc
end_section sections.Scenarios e = cc

-- nothing counts there
none_behind : (wanted : StochSection → Bool) (at : Place) (lines : List TextLine) → wanted sections.End ≡ false → is_end at.section ≡ true → lines_of wanted (placed_from behind at lines) ≡ []
none_behind wanted at [] outside end = refl
none_behind wanted at (line ∷ lines) outside end = go line.header line.fields (none_behind wanted at lines outside end)
  where
    go : (header : Bool) (fields : List (List ℕ)) → lines_of wanted (placed_from behind at lines) ≡ [] → lines_of wanted (shown at header fields ++ placed_from behind (next_place at header fields) lines) ≡ []
    go true fields rest = ap (λ (next : Place). lines_of wanted (placed_from behind next lines)) (ends at (is_end at.section) refl end fields) ∙ rest
    go false fields rest = ap (λ (b : Bool). cond b (line_at at fields ∷ lines_of wanted (placed_from behind at lines)) (lines_of wanted (placed_from behind at lines))) (ap wanted (end_section at.section end) ∙ outside) ∙ rest

at_end : (core : Core) (p : Stages) (cs scs : List Group) (s : Stated) → Tie core p cs scs s → is_end s.place.section ≡ true → Ready core p cs scs s
at_end core p cs scs s t end = go s.in_work (subst (Work core p cs scs s s.in_work) (end_section s.place.section end) t.work)
  where
    go : (b : Bool) → Work core p cs scs s b sections.End → Ready core p cs scs s
    go false w = record { cases = t.cases; sets = w.0; names = t.names; heads = t.heads; nodes = w.1; quiet = w.2 }
    go true w = absurd w

-- ---- all lines

line_ok : (number : ℕ) (given : Result Stated Cause) (next : Stated → Result Random Refusal) (x : Random) → on_line number given next ≡ Ok x → (t : Stated) × (given ≡ Ok t) × (next t ≡ Ok x)
line_ok number (Ok t) next x e = (t, refl, e)
line_ok number (Err cause) next x e = cc

found_at : (number : ℕ) (given : Result Random Cause) (x : Random) → at_line number given ≡ Ok x → given ≡ Ok x
found_at number (Ok y) x e = cc
found_at number (Err cause) x e = cc

-- what the groups mean with the lines behind this place
abbrev meant_from : Core → Stages → List Group → List Group → Place → List TextLine → Random
meant_from core p cs scs at lines =
    meant_by core p (grouped cs (lines_of is_for_cases (placed_from behind at lines))) (grouped scs (lines_of is_for_scenarios (placed_from behind at lines)))

behind_line : (core : Core) (p : Stages) (cs scs : List Group) (t : Stated) (end_line number : ℕ) (lines : List TextLine) (x : Random) (b : Bool) → is_end t.place.section ≡ b → Tie core p cs scs t →
    (is_end t.place.section ≡ false → read_from (stoch_file core p) end_line t lines ≡ Ok x → x ≡ meant_from core p cs scs t.place lines) →
    (if b then at_line number (random_of t) else read_from (stoch_file core p) end_line t lines) ≡ Ok x → x ≡ meant_from core p cs scs t.place lines
behind_line core p cs scs t end_line number lines x true is tie later e =
    random_is core p cs scs t x (at_end core p cs scs t tie is) (found_at number (random_of t) x e)
    ∙ ap (λ (rest : List (Placed Place)). meant_by core p (grouped cs rest) scs) (sym (none_behind is_for_cases t.place lines refl is))
    ∙ ap (λ (rest : List (Placed Place)). meant_by core p (grouped cs (lines_of is_for_cases (placed_from behind t.place lines))) (grouped scs rest)) (sym (none_behind is_for_scenarios t.place lines refl is))
behind_line core p cs scs t end_line number lines x false is tie later e = later is e

read_is : (core : Core) (p : Stages) (cs scs : List Group) (s : Stated) (end_line : ℕ) (lines : List TextLine) (x : Random) → is_end s.place.section ≡ false → Tie core p cs scs s → read_from (stoch_file core p) end_line s lines ≡ Ok x →
    x ≡ meant_from core p cs scs s.place lines
read_is core p cs scs s end_line [] x open_ tie e = cc
read_is core p cs scs s end_line (line ∷ lines) x open_ tie e =
    let h = line_ok line.number (if line.header then header_line s line.fields else data_line core p s.place.section s line.fields)
    (λ t. if is_end t.place.section then at_line line.number (random_of t) else read_from (stoch_file core p) end_line t lines) x e in
    let t = h.0 in
    let n = stepped core p cs scs s t line.header line.fields open_ tie h.1 in
    let rest : List (Placed Place) = placed_from behind (next_place s.place line.header line.fields) lines in
    behind_line core p n.cases n.scenarios t end_line line.number lines x (is_end t.place.section) refl n.tie (λ not_yet more. read_is core p n.cases n.scenarios t end_line lines x not_yet n.tie more) h.2
    ∙ ap (λ (at : Place). meant_from core p n.cases n.scenarios at lines) n.place
    ∙ ap (λ (groups : List Group). meant_by core p groups (grouped n.scenarios (lines_of is_for_scenarios rest))) (sym (n.more_cases rest))
    ∙ ap (λ (groups : List Group). meant_by core p (grouped cs (lines_of is_for_cases (shown s.place line.header line.fields ++ rest))) groups) (sym (n.more_scenarios rest))

nothing_tied : (core : Core) (p : Stages) → Tie core p [] [] nothing_stated
nothing_tied core p = record { cases = no_cases core p; names = refl; heads = refl; work = (refl, refl, refl) }

pub law : StochMeaningLaw
law core p text x e = read_is core p [] [] nothing_stated (reading_of 0 text).end_line (reading_of 0 text).lines x refl (nothing_tied core p) e
