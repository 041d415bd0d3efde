-- What is answered for words that are a command that runs.
use Rattle.std.proofs.Common.{◌≡◌, ◌<◌, ◌≤◌, ℕ, List, ◌++◌, Option, Some, None, inl, inr, refl, sym, subst}
use Rattle.std.proofs.lemmas.List.{append-nil}
use Rattle.smps_io.specs.Files.{Files}
use Rattle.command_words.specs.declared.command.Task.{Task}
use Rattle.command_words.specs.declared.command.Plan.{Plan}
use Rattle.command_words.specs.declared.command.Page.{Page}
use Rattle.command_words.specs.Commands.{FileNames, Asked, command_of}
use Rattle.command_words.specs.Commands.Asked.{OnFiles, MakeThis}
use Rattle.input_files.specs.declared.kind.FileKind.{FileKind}
use Rattle.input_files.specs.Fetched.{Texts, AreGiven, IsNamed, IsLong, StopsAt, file_limit}
use Rattle.exit_status.specs.declared.status.Status.{Status}
use Rattle.exit_status.specs.declared.status.Status.TheVariants.{Done, SomeOpen, Words, Refused, TooLong, ReadFault, WriteFault, Memory}
use Rattle.smps_cli.specs.Answers.{MayAnswer, MayAnswerFor, MayAnswerTask, MayCome, RefusesWords, HasTexts}
use Rattle.smps_cli.specs.Ends.{MayEnd, RefusesTexts}
use Rattle.smps_cli.specs.Makes.{MakesPlan, MayMake, PrintsSummary, texts_of, workload}
use Rattle.smps_cli.specs.Sources.{HasFetched, LastSaysLong, StatusSaysLong, fetch_order}
use Rattle.exit_status.specs.Lines.{status_line}

module _ (content : Option Files) (names : FileNames) (task : Task) (status : Status) (output : List ℕ) where
  pub comes : (texts : Texts) → AreGiven content names texts → MayCome task texts status output → MayAnswerTask content names task status output
  comes texts g h = inr (inr (texts, g, h))

  pub not_read : (kind : FileKind) → IsNamed names kind → (status ≡ ReadFault kind) × (output ≡ status_line (ReadFault kind)) → MayAnswerTask content names task status output
  not_read kind n h = inl (kind, n, h.0, h.1)

  pub too_long : (kind : FileKind) → IsLong content names kind → (status ≡ TooLong kind) × (output ≡ status_line (TooLong kind)) → MayAnswerTask content names task status output
  too_long kind n h = inr (inl (kind, n, h.0, h.1))

module _ (content : Option Files) (words : List (List ℕ)) (status : Status) (output : List ℕ) where
  answers_for : (asked : Option Asked) → asked ≡ command_of words → MayAnswerFor asked content status output → MayAnswer content words status output
  answers_for asked e h = subst (λ (command : Option Asked). MayAnswerFor command content status output) e h

  pub does_task : (names : FileNames) (task : Task) → Some (OnFiles names task) ≡ command_of words → MayAnswerTask content names task status output → MayAnswer content words status output
  does_task names task e h = answers_for (Some (OnFiles names task)) e h

  pub makes : (plan : Plan) → Some (MakeThis plan) ≡ command_of words → MakesPlan plan status output → MayAnswer content words status output
  makes plan e h = answers_for (Some (MakeThis plan)) e h

  pub no_command : None ≡ command_of words → RefusesWords status output → MayAnswer content words status output
  no_command e h = answers_for None e h

-- ---- what was fetched

-- all files were
module _ (asked : Option Asked) (before now : List (List ℕ)) where
  pub all_fetched : now ≡ before ++ fetch_order asked → (status : Status) → HasTexts status → HasFetched asked status before now
  all_fetched e Done h = e
  all_fetched e SomeOpen h = e
  all_fetched e Words h = absurd h
  all_fetched e (Refused file line cause) h = e
  all_fetched e (TooLong file) h = absurd h
  all_fetched e (ReadFault file) h = absurd h
  all_fetched e WriteFault h = absurd h
  all_fetched e Memory h = absurd h

pub all_within : (given : ℕ) → given ≤ file_limit → (status : Status) → HasTexts status → StatusSaysLong status given
all_within given e Done h = e
all_within given e SomeOpen h = e
all_within given e Words h = absurd h
all_within given e (Refused file line cause) h = e
all_within given e (TooLong file) h = absurd h
all_within given e (ReadFault file) h = absurd h
all_within given e WriteFault h = absurd h
all_within given e Memory h = absurd h

-- those up to the one that the status names
module _ (names : FileNames) (task : Task) (kind : FileKind) (before now : List (List ℕ)) (status : Status) (output : List ℕ) where
  pub read_stops : StopsAt names kind before now → (status ≡ ReadFault kind) × (output ≡ status_line (ReadFault kind))
      → HasFetched (Some (OnFiles names task)) status before now
  read_stops h s = subst (λ (said : Status). HasFetched (Some (OnFiles names task)) said before now) (sym s.0) h

  pub long_stops : StopsAt names kind before now → (status ≡ TooLong kind) × (output ≡ status_line (TooLong kind))
      → HasFetched (Some (OnFiles names task)) status before now
  long_stops h s = subst (λ (said : Status). HasFetched (Some (OnFiles names task)) said before now) (sym s.0) h

module _ (kind : FileKind) (given : ℕ) (status : Status) (output : List ℕ) where
  pub read_within : given ≤ file_limit → (status ≡ ReadFault kind) × (output ≡ status_line (ReadFault kind)) → StatusSaysLong status given
  read_within h s = subst (λ (said : Status). StatusSaysLong said given) (sym s.0) h

  pub long_above : file_limit < given → (status ≡ TooLong kind) × (output ≡ status_line (TooLong kind)) → StatusSaysLong status given
  long_above h s = subst (λ (said : Status). StatusSaysLong said given) (sym s.0) h

-- none was, for words that aren't a command's and for a workload
module _ (all : List (List ℕ)) where
  pub refused_fetches : (asked : Option Asked) (status : Status) (output : List ℕ) → (status ≡ Words) × (output ≡ status_line Words)
      → HasFetched asked status all all
  refused_fetches asked status output s = subst (λ (said : Status). HasFetched asked said all all) (sym s.0) refl

  made_by_end : (plan : Plan) (prints : Status → List ℕ → Type 0) (status : Status) (output : List ℕ)
      → MayEnd prints (RefusesTexts (texts_of (workload plan))) status output → HasFetched (Some (MakeThis plan)) status all all
  made_by_end plan prints Done output h = sym (append-nil all)
  made_by_end plan prints SomeOpen output h = sym (append-nil all)
  made_by_end plan prints Words output h = absurd h
  made_by_end plan prints (Refused file line cause) output h = sym (append-nil all)
  made_by_end plan prints (TooLong file) output h = absurd h
  made_by_end plan prints (ReadFault file) output h = absurd h
  made_by_end plan prints WriteFault output h = absurd h
  made_by_end plan prints Memory output h = absurd h

  made_by_page : (plan : Plan) (page : Option Page) (status : Status) (output : List ℕ) → MayMake page plan status output
      → HasFetched (Some (MakeThis plan)) status all all
  made_by_page plan None status output h = made_by_end plan (PrintsSummary plan) status output h
  made_by_page plan (Some page) status output h =
      subst (λ (said : Status). HasFetched (Some (MakeThis plan)) said all all) (sym h.1) (sym (append-nil all))

  pub made_fetches : (plan : Plan) (status : Status) (output : List ℕ) → MakesPlan plan status output
      → HasFetched (Some (MakeThis plan)) status all all
  made_fetches plan status output h = made_by_page plan plan.page status output h

-- of the words themselves
module _ (words : List (List ℕ)) (status : Status) (asked : Option Asked) (e : asked ≡ command_of words) where
  pub fetched_for : (before now : List (List ℕ)) → HasFetched asked status before now → HasFetched (command_of words) status before now
  fetched_for before now h = subst (λ (command : Option Asked). HasFetched command status before now) e h

  pub long_for : (given : ℕ) → LastSaysLong asked status given → LastSaysLong (command_of words) status given
  long_for given h = subst (λ (command : Option Asked). LastSaysLong command status given) e h

-- where memory was wanting, or the output failed, nothing is said of the last file
pub memory_says_nothing : (asked : Option Asked) (given : ℕ) → LastSaysLong asked Memory given
memory_says_nothing None given = tt
memory_says_nothing (Some (OnFiles names t)) given = tt
memory_says_nothing (Some (MakeThis plan)) given = tt

pub failure_says_nothing : (asked : Option Asked) (given : ℕ) → LastSaysLong asked WriteFault given
failure_says_nothing None given = tt
failure_says_nothing (Some (OnFiles names t)) given = tt
failure_says_nothing (Some (MakeThis plan)) given = tt
