-- A run for whose words memory was wanting.
use Rattle.std.proofs.Common.{◌≡◌, ℕ, List, map, drop, Option, None, Some, Result, Ok, String, string_bytes, inl, inr, refl, sym, subst}
use Rattle.std.proofs.lemmas.List.{append-nil}
use Rattle.std.specs.declared.alloc.Global.{Global}
use Rattle.std.specs.declared.io.Error.{Error}
use Rattle.std.specs.declared.vec.IntoIter.{IntoIter}
use Rattle.std.specs.Vec.Iter.{into_iter_items}
use Rattle.smps_io.specs.Files.{Files}
use Rattle.command_words.specs.declared.command.Task.{Task}
use Rattle.command_words.specs.declared.command.Task.TheVariants.{Solve, Check, Table, Show, Flat, Value, SolveRisk, CheckRisk, SolveBasis}
use Rattle.command_words.specs.Commands.{Asked, command_of}
use Rattle.command_words.specs.Commands.Asked.{OnFiles, MakeThis}
use Rattle.exit_status.specs.declared.status.Status.TheVariants.{Memory}
use Rattle.exit_status.specs.Lines.{status_number}
use Rattle.smps_cli.specs.Completes.{EndsTask}
use Rattle.smps_cli.specs.Runs.{IsRun, ShelfState, SinkState}
use Rattle.smps_cli.specs.Sources.{LastSaysLong}
use Rattle.smps_cli.proofs.TruthLemmas.{memory_tells_nothing}
use Rattle.tidzgheba.specs.Ending.{EndsFor}

says_nothing : (asked : Option Asked) (given : ℕ) → LastSaysLong asked Memory given
says_nothing None given = tt
says_nothing (Some (OnFiles names task)) given = tt
says_nothing (Some (MakeThis plan)) given = tt

-- each task may want memory
ends_so : (task : Task) → EndsTask task Memory
ends_so (Solve budget) = inr (inr refl)
ends_so Check = inr (inr refl)
ends_so (Table sheet) = inl (inr (inr refl))
ends_so Show = inr (inr refl)
ends_so (Flat extent) = inl (inr (inr refl))
ends_so (Value budget) = inr (inr refl)
ends_so (SolveRisk measure budget) = inl (inr (inr refl))
ends_so (CheckRisk measure) = inl (inr (inr refl))
ends_so (SolveBasis budget) = inl (inr (inr refl))

module _ (content : Option Files) (shelf : ShelfState) (sink : SinkState) where
  nothing_ran : (words : List (List ℕ)) → IsRun words content shelf shelf sink sink Memory
  nothing_ran words = record {
    headline = λ told. absurd (memory_tells_nothing told);
    truths = λ told. absurd (memory_tells_nothing told);
    words = λ e. absurd (cc);
    none_fetched = λ e. refl;
    fetched = (0, sym (append-nil shelf.fetches));
    once = (0, sym (append-nil shelf.fetches));
    long = says_nothing (command_of words) shelf.given;
    read = λ kind e. absurd (cc);
    write = λ e. absurd (cc);
    completes = λ asks gives takes. inr (inr (inl refl));
    ends = λ asks gives takes. ends_so asks.task;
    makes = λ asks takes. inr (inr refl);
    answers = inr (refl, refl);
  }

  pub wants_memory : (arguments : Result (IntoIter (String Global) Global) Error) (words : IntoIter (String Global) Global) (number : ℕ)
      → arguments ≡ Ok words → number ≡ status_number Memory → EndsFor arguments content shelf shelf sink sink number
  wants_memory arguments words number e is =
      subst (λ (given : Result (IntoIter (String Global) Global) Error). EndsFor given content shelf shelf sink sink number) (sym e)
      (Memory, is, nothing_ran (map string_bytes (drop 1 (into_iter_items words))))
