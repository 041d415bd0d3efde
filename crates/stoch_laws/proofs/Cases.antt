-- The tables of blocks and cases, and the groups of lines that are cases.
use Rattle.std.proofs.Common.{◌≡◌, ◌∙◌, ap, ℕ, ◌+◌, Bool, true, List, [], ◌∷◌, ◌++◌, Option, Some, None, map, length, refl, sym}
use Rattle.std.proofs.lemmas.List.{map-append, length-map, length-append}
use Rattle.rationals.specs.Rational.{ℚ}
use Rattle.smps_words.specs.Names.{same_name, place_from}
use Rattle.smps_words.specs.declared.entry.Entry.{Entry}
use Rattle.smps_words.proofs.NumberedNames.{same_name_refl}
use Rattle.core_defs.specs.declared.program.Core.{Core}
use Rattle.time_defs.specs.Means.{Stages}
use Rattle.stoch_defs.specs.declared.heads.CaseHead.{CaseHead}
use Rattle.stoch_defs.specs.Entries.{same_entry}
use Rattle.stoch_defs.specs.Groups.{Group}
use Rattle.stoch_defs.specs.Means.{Owner, owner_of, same_owner, number_from, period_of, stated_probability, with_first, number_of_group, firsts_from}
use Rattle.stoch_defs.specs.Means.Owner.{OfEntry, OfName}
use Rattle.stoch_defs.specs.Stated.{entry_from}
use Rattle.stoch_defs.specs.Step.{case_head_of}
use Rattle.stoch_defs.proofs.EntryLemmas.{same_self}
use Rattle.stoch_laws.proofs.Tables.{or_else, some_if, seen, or_none, entry_snoc, name_snoc, owner_snoc, mapped}

abbrev pub firsts : Core → List Group → List Group
firsts core cs = firsts_from core [] cs

abbrev pub owners : Core → List Group → List Owner
owners core cs = map (owner_of core) (firsts core cs)

abbrev pub some_block : CaseHead → Option ℕ
some_block h = Some h.block

abbrev pub head_chance : CaseHead → ℚ
head_chance h = h.probability

-- the tables say what the groups say
pub record Cases (core : Core) (p : Stages) (cs : List Group) (blocks : List ℕ) (singles : List Entry) (single_blocks : List ℕ) (names : List (List ℕ)) (numbers : List ℕ) (heads : List CaseHead) : Type 0 where
  pub stages : blocks ≡ map (period_of core p) (firsts core cs)
  pub of_entry : (e : Entry) → number_from 0 (owners core cs) (OfEntry (Some e)) ≡ seen single_blocks (entry_from 0 singles e)
  pub of_name : (n : List ℕ) → number_from 0 (owners core cs) (OfName n) ≡ seen numbers (place_from 0 names n)
  pub singles_long : length singles ≡ length single_blocks
  pub names_long : length names ≡ length numbers
  pub blocks_are : map (number_of_group core (firsts core cs)) cs ≡ map some_block heads
  pub chances : map stated_probability cs ≡ map head_chance heads

pub no_cases : (core : Core) (p : Stages) → Cases core p [] [] [] [] [] [] []
no_cases core p = record { stages = refl; of_entry = λ e. refl; of_name = λ n. refl; singles_long = refl; names_long = refl; blocks_are = refl; chances = refl }

-- ---- the first groups

firsts_snoc : (core : Core) (fs cs : List Group) (g : Group) → firsts_from core fs (cs ++ g ∷ []) ≡ with_first core (firsts_from core fs cs) g (number_of_group core (firsts_from core fs cs) g)
firsts_snoc core fs [] g = refl
firsts_snoc core fs (c ∷ cs) g = firsts_snoc core (with_first core fs c (number_of_group core fs c)) cs g

-- what is known of a group by its head alone
last_map : {X : Type 0} (core : Core) (f : Group → X) (fs : List Group) (g h : Group) (o : Option ℕ) → f h ≡ f g → map f (with_first core fs h o) ≡ map f (with_first core fs g o)
last_map core f fs g h (Some n) e = refl
last_map core f fs g h None e = map-append f fs (h ∷ []) ∙ ap (λ x. map f fs ++ x ∷ []) e ∙ sym (map-append f fs (g ∷ []))

tail_map : {X : Type 0} (core : Core) (f : Group → X) (before : List Group) (g h : Group) → owner_of core h ≡ owner_of core g → f h ≡ f g → map f (firsts core (before ++ h ∷ [])) ≡ map f (firsts core (before ++ g ∷ []))
tail_map core f before g h own e =
    ap (map f) (firsts_snoc core [] before h)
    ∙ ap (λ owner. map f (with_first core (firsts core before) h (number_from 0 (owners core before) owner))) own
    ∙ last_map core f (firsts core before) g h (number_of_group core (firsts core before) g) e
    ∙ ap (map f) (sym (firsts_snoc core [] before g))

abbrev numbers_by : Core → List Owner → Group → Option ℕ
numbers_by core os g = number_from 0 os (owner_of core g)

-- the last group gets a further line
pub same_tables : (core : Core) (p : Stages) (before : List Group) (g h : Group) (blocks : List ℕ) (singles : List Entry) (single_blocks : List ℕ) (names : List (List ℕ)) (numbers : List ℕ) (heads : List CaseHead) →
    owner_of core h ≡ owner_of core g → period_of core p h ≡ period_of core p g → stated_probability h ≡ stated_probability g →
    Cases core p (before ++ g ∷ []) blocks singles single_blocks names numbers heads → Cases core p (before ++ h ∷ []) blocks singles single_blocks names numbers heads
same_tables core p before g h blocks singles single_blocks names numbers heads own period chance c =
    let os : owners core (before ++ h ∷ []) ≡ owners core (before ++ g ∷ []) = tail_map core (owner_of core) before g h own own in
    let all = owners core (before ++ g ∷ []) in
    record {
      stages = c.stages ∙ sym (tail_map core (period_of core p) before g h own period);
      of_entry = λ e. ap (λ (l : List Owner). number_from 0 l (OfEntry (Some e))) os ∙ c.of_entry e;
      of_name = λ n. ap (λ (l : List Owner). number_from 0 l (OfName n)) os ∙ c.of_name n;
      singles_long = c.singles_long;
      names_long = c.names_long;
      blocks_are = ap (λ (l : List Owner). map (numbers_by core l) (before ++ h ∷ [])) os ∙ map-append (numbers_by core all) before (h ∷ [])
          ∙ ap (λ owner. map (numbers_by core all) before ++ number_from 0 all owner ∷ []) own ∙ sym (map-append (numbers_by core all) before (g ∷ [])) ∙ c.blocks_are;
      chances = map-append stated_probability before (h ∷ []) ∙ ap (λ x. map stated_probability before ++ x ∷ []) chance ∙ sym (map-append stated_probability before (g ∷ [])) ∙ c.chances;
    }

-- ---- one more group

-- of an owner that was there
pub old_case : (core : Core) (p : Stages) (cs : List Group) (g : Group) (blocks : List ℕ) (singles : List Entry) (single_blocks : List ℕ) (names : List (List ℕ)) (numbers : List ℕ) (heads : List CaseHead) (n : ℕ) (chance : ℚ) →
    number_from 0 (owners core cs) (owner_of core g) ≡ Some n → chance ≡ stated_probability g →
    Cases core p cs blocks singles single_blocks names numbers heads → Cases core p (cs ++ g ∷ []) blocks singles single_blocks names numbers (heads ++ case_head_of n chance ∷ [])
old_case core p cs g blocks singles single_blocks names numbers heads n chance there is c =
    let same : firsts core (cs ++ g ∷ []) ≡ firsts core cs = firsts_snoc core [] cs g ∙ ap (with_first core (firsts core cs) g) there in
    record {
      stages = c.stages ∙ ap (map (period_of core p)) (sym same);
      of_entry = λ e. ap (λ (l : List Group). number_from 0 (map (owner_of core) l) (OfEntry (Some e))) same ∙ c.of_entry e;
      of_name = λ n. ap (λ (l : List Group). number_from 0 (map (owner_of core) l) (OfName n)) same ∙ c.of_name n;
      singles_long = c.singles_long;
      names_long = c.names_long;
      blocks_are = ap (λ (l : List Group). map (number_of_group core l) (cs ++ g ∷ [])) same ∙ map-append (number_of_group core (firsts core cs)) cs (g ∷ [])
          ∙ mapped some_block (map (number_of_group core (firsts core cs)) cs) heads (number_of_group core (firsts core cs) g) (case_head_of n chance) c.blocks_are there;
      chances = map-append stated_probability cs (g ∷ []) ∙ mapped head_chance (map stated_probability cs) heads (stated_probability g) (case_head_of n chance) c.chances (sym is);
    }

-- the numbers that are there stay
kept : (core : Core) (fs : List Group) (last g : Group) (n : ℕ) → number_of_group core fs g ≡ Some n → number_of_group core (fs ++ last ∷ []) g ≡ Some n
kept core fs last g n e =
    ap (λ (l : List Owner). number_from 0 l (owner_of core g)) (map-append (owner_of core) fs (last ∷ []))
    ∙ owner_snoc (map (owner_of core) fs) (owner_of core last) (owner_of core g)
    ∙ ap (λ (o : Option ℕ). or_else o (some_if (same_owner (owner_of core g) (owner_of core last)) (length (map (owner_of core) fs)))) e

pub head_is : (x y : Option ℕ) (xs ys : List (Option ℕ)) → x ∷ xs ≡ y ∷ ys → x ≡ y
head_is x y xs ys e = cc

pub tail_is : (x y : Option ℕ) (xs ys : List (Option ℕ)) → x ∷ xs ≡ y ∷ ys → xs ≡ ys
tail_is x y xs ys e = cc

all_kept : (core : Core) (fs : List Group) (last : Group) (cs : List Group) (heads : List CaseHead) → map (number_of_group core fs) cs ≡ map some_block heads → map (number_of_group core (fs ++ last ∷ [])) cs ≡ map some_block heads
all_kept core fs last [] heads e = e
all_kept core fs last (g ∷ cs) [] e = cc
all_kept core fs last (g ∷ cs) (h ∷ heads) e =
    let here = head_is (number_of_group core fs g) (some_block h) (map (number_of_group core fs) cs) (map some_block heads) e in
    let there = tail_is (number_of_group core fs g) (some_block h) (map (number_of_group core fs) cs) (map some_block heads) e in
    ap (λ (o : Option ℕ). o ∷ map (number_of_group core (fs ++ last ∷ [])) cs) (kept core fs last g h.block here)
    ∙ ap (λ (l : List (Option ℕ)). Some h.block ∷ l) (all_kept core fs last cs heads there)

-- of a new owner
record Grown (core : Core) (p : Stages) (cs : List Group) (g : Group) (blocks : List ℕ) (heads : List CaseHead) (owner : Owner) (chance : ℚ) : Type 0 where
  pub own : owners core (cs ++ g ∷ []) ≡ owners core cs ++ owner ∷ []
  pub count : length (owners core cs) ≡ length blocks
  pub stages : blocks ++ period_of core p g ∷ [] ≡ map (period_of core p) (firsts core (cs ++ g ∷ []))
  pub blocks_are : map (number_of_group core (firsts core (cs ++ g ∷ []))) (cs ++ g ∷ []) ≡ map some_block (heads ++ case_head_of (length blocks) chance ∷ [])
  pub chances : map stated_probability (cs ++ g ∷ []) ≡ map head_chance (heads ++ case_head_of (length blocks) chance ∷ [])

grown : (core : Core) (p : Stages) (cs : List Group) (g : Group) (blocks : List ℕ) (singles : List Entry) (single_blocks : List ℕ) (names : List (List ℕ)) (numbers : List ℕ) (heads : List CaseHead) (owner : Owner) (chance : ℚ) →
    owner_of core g ≡ owner → same_owner owner owner ≡ true → number_from 0 (owners core cs) owner ≡ None → chance ≡ stated_probability g →
    Cases core p cs blocks singles single_blocks names numbers heads → Grown core p cs g blocks heads owner chance
grown core p cs g blocks singles single_blocks names numbers heads owner chance is self none likely c =
    let fs = firsts core cs in
    let more : firsts core (cs ++ g ∷ []) ≡ fs ++ g ∷ [] = firsts_snoc core [] cs g ∙ ap (with_first core fs g) (ap (number_from 0 (owners core cs)) is ∙ none) in
    let count : length (owners core cs) ≡ length blocks = length-map fs (owner_of core) ∙ sym (ap length c.stages ∙ length-map fs (period_of core p)) in
    let newest : number_of_group core (fs ++ g ∷ []) g ≡ Some (length blocks) =
    ap (λ (l : List Owner). number_from 0 l (owner_of core g)) (map-append (owner_of core) fs (g ∷ []))
    ∙ owner_snoc (owners core cs) (owner_of core g) (owner_of core g)
    ∙ ap (λ (o : Owner). or_else (number_from 0 (owners core cs) o) (some_if (same_owner o o) (length (owners core cs)))) is
    ∙ ap (λ (o : Option ℕ). or_else o (some_if (same_owner owner owner) (length (owners core cs)))) none
    ∙ ap (λ (b : Bool). some_if b (length (owners core cs))) self ∙ ap Some count in
    record {
      own = ap (map (owner_of core)) more ∙ map-append (owner_of core) fs (g ∷ []) ∙ ap (λ o. owners core cs ++ o ∷ []) is;
      count = count;
      stages = mapped (period_of core p) blocks fs (period_of core p g) g c.stages refl ∙ ap (map (period_of core p)) (sym more);
      blocks_are = ap (λ (l : List Group). map (number_of_group core l) (cs ++ g ∷ [])) more ∙ map-append (number_of_group core (fs ++ g ∷ [])) cs (g ∷ [])
          ∙ mapped some_block (map (number_of_group core (fs ++ g ∷ [])) cs) heads (number_of_group core (fs ++ g ∷ []) g) (case_head_of (length blocks) chance) (all_kept core fs g cs heads c.blocks_are) newest;
      chances = map-append stated_probability cs (g ∷ []) ∙ mapped head_chance (map stated_probability cs) heads (stated_probability g) (case_head_of (length blocks) chance) c.chances (sym likely);
    }

more_long : {X : Type 0} (xs : List X) (x : X) (ys : List ℕ) (y : ℕ) → length xs ≡ length ys → length (xs ++ x ∷ []) ≡ length (ys ++ y ∷ [])
more_long xs x ys y e = length-append xs (x ∷ []) ∙ ap (λ (n : ℕ). n + 1) e ∙ sym (length-append ys (y ∷ []))

pub new_single : (core : Core) (p : Stages) (cs : List Group) (g : Group) (blocks : List ℕ) (singles : List Entry) (single_blocks : List ℕ) (names : List (List ℕ)) (numbers : List ℕ) (heads : List CaseHead) (e : Entry) (period : ℕ) (chance : ℚ) →
    owner_of core g ≡ OfEntry (Some e) → entry_from 0 singles e ≡ None → period ≡ period_of core p g → chance ≡ stated_probability g → Cases core p cs blocks singles single_blocks names numbers heads →
    Cases core p (cs ++ g ∷ []) (blocks ++ period ∷ []) (singles ++ e ∷ []) (single_blocks ++ length blocks ∷ []) names numbers (heads ++ case_head_of (length blocks) chance ∷ [])
new_single core p cs g blocks singles single_blocks names numbers heads e period chance is none at likely c =
    let n = grown core p cs g blocks singles single_blocks names numbers heads (OfEntry (Some e)) chance is (same_self e) (c.of_entry e ∙ ap (seen single_blocks) none) likely c in
    let os = owners core cs in
    record {
      stages = ap (λ (s : ℕ). blocks ++ s ∷ []) at ∙ n.stages;
      of_entry = λ q. ap (λ (l : List Owner). number_from 0 l (OfEntry (Some q))) n.own ∙ owner_snoc os (OfEntry (Some e)) (OfEntry (Some q))
          ∙ ap (λ (o : Option ℕ). or_else o (some_if (same_entry q e) (length os))) (c.of_entry q)
          ∙ ap (λ (m : ℕ). or_else (seen single_blocks (entry_from 0 singles q)) (some_if (same_entry q e) m)) n.count
          ∙ sym (entry_snoc singles single_blocks e q (length blocks) c.singles_long);
      of_name = λ q. ap (λ (l : List Owner). number_from 0 l (OfName q)) n.own ∙ owner_snoc os (OfEntry (Some e)) (OfName q) ∙ or_none (number_from 0 os (OfName q)) ∙ c.of_name q;
      singles_long = more_long singles e single_blocks (length blocks) c.singles_long;
      names_long = c.names_long;
      blocks_are = n.blocks_are;
      chances = n.chances;
    }

pub new_named : (core : Core) (p : Stages) (cs : List Group) (g : Group) (blocks : List ℕ) (singles : List Entry) (single_blocks : List ℕ) (names : List (List ℕ)) (numbers : List ℕ) (heads : List CaseHead) (name : List ℕ) (period : ℕ) (chance : ℚ) →
    owner_of core g ≡ OfName name → place_from 0 names name ≡ None → period ≡ period_of core p g → chance ≡ stated_probability g → Cases core p cs blocks singles single_blocks names numbers heads →
    Cases core p (cs ++ g ∷ []) (blocks ++ period ∷ []) singles single_blocks (names ++ name ∷ []) (numbers ++ length blocks ∷ []) (heads ++ case_head_of (length blocks) chance ∷ [])
new_named core p cs g blocks singles single_blocks names numbers heads name period chance is none at likely c =
    let n = grown core p cs g blocks singles single_blocks names numbers heads (OfName name) chance is (same_name_refl name) (c.of_name name ∙ ap (seen numbers) none) likely c in
    let os = owners core cs in
    record {
      stages = ap (λ (s : ℕ). blocks ++ s ∷ []) at ∙ n.stages;
      of_entry = λ q. ap (λ (l : List Owner). number_from 0 l (OfEntry (Some q))) n.own ∙ owner_snoc os (OfName name) (OfEntry (Some q)) ∙ or_none (number_from 0 os (OfEntry (Some q))) ∙ c.of_entry q;
      of_name = λ q. ap (λ (l : List Owner). number_from 0 l (OfName q)) n.own ∙ owner_snoc os (OfName name) (OfName q)
          ∙ ap (λ (o : Option ℕ). or_else o (some_if (same_name q name) (length os))) (c.of_name q)
          ∙ ap (λ (m : ℕ). or_else (seen numbers (place_from 0 names q)) (some_if (same_name q name) m)) n.count
          ∙ sym (name_snoc names numbers name q (length blocks) c.names_long);
      singles_long = c.singles_long;
      names_long = more_long names name numbers (length blocks) c.names_long;
      blocks_are = n.blocks_are;
      chances = n.chances;
    }
