use Rattle.std.proofs.Common.{map, string_bytes, rules}
use Rattle.smps_cli.specs.Found.{found_text}
use Rattle.command_words.specs.Commands.{command_of}
use Rattle.smps_cli.proofs.AnswerLemmas.{memory_says_nothing, failure_says_nothing}
use Rattle.smps_cli.proofs.TruthLemmas.{runs_are_true, memory_tells_nothing, failure_tells_nothing}
use Rattle.smps_cli.proofs.HeadlineLemmas.{runs_are_so}
use Rattle.smps_cli.proofs.CompleteLemmas.{comes_to_a_report}
use Rattle.smps_cli.proofs.MeantLemmas.{comes_to_an_answer, comes_to_a_workload, memory_ends}
use Rattle.smps_cli.proofs.top_call.run.Goals as goal

pub returns-in-Ok-write_found : goal.returns-in-Ok-write_found
returns-in-Ok-write_found g c = record {
  headline = runs_are_so (g.H.Shelf.content c.args.shelf.now) (g.K.Sink.written c.args.sink.now) (g.K.Sink.written c.write_found.new.sink)
      (g.K.Sink.taken c.args.sink.now) (g.K.Sink.taken c.write_found.new.sink) (map string_bytes c.args.words.now) c.in-Ok.ran.status (search rules);
  truths = runs_are_true (g.H.Shelf.content c.args.shelf.now) (g.K.Sink.written c.args.sink.now) (g.K.Sink.written c.write_found.new.sink)
      (g.K.Sink.taken c.args.sink.now) (g.K.Sink.taken c.write_found.new.sink) (map string_bytes c.args.words.now) c.in-Ok.ran.status (search rules);
  words = c.in-Ok.ensures.words;
  none_fetched = c.answered.ensures.none_fetched;
  fetched = c.in-Ok.ensures.fetched;
  once = c.answered.ensures.once;
  long = c.in-Ok.ensures.long;
  read = c.in-Ok.ensures.read;
  write = λ e. absurd (c.in-Ok.ensures.written e);
  completes = λ asks sure _.
      comes_to_a_report (g.H.Shelf.content c.args.shelf.now) (map string_bytes c.args.words.now) asks c.in-Ok.ran.status (found_text c.in-Ok.ran.found)
      (λ kind fault. sure (c.in-Ok.ensures.read kind fault)) c.in-Ok.ensures.may;
  ends = λ asks sure _.
      comes_to_an_answer (g.H.Shelf.content c.args.shelf.now) (map string_bytes c.args.words.now) asks c.in-Ok.ran.status (found_text c.in-Ok.ran.found)
      (λ kind fault. sure (c.in-Ok.ensures.read kind fault)) c.in-Ok.ensures.may;
  makes = λ asks _.
      comes_to_a_workload (g.H.Shelf.content c.args.shelf.now) (map string_bytes c.args.words.now) asks c.in-Ok.ran.status (found_text c.in-Ok.ran.found)
      c.in-Ok.ensures.may;
  answers = search rules;
}

pub returns-in-Err : goal.returns-in-Err
returns-in-Err g c = record {
  headline = λ told. absurd (memory_tells_nothing told);
  truths = λ told. absurd (memory_tells_nothing told);
  words = search rules;
  none_fetched = search rules;
  fetched = search rules;
  once = search rules;
  long = memory_says_nothing (command_of (map string_bytes c.args.words.now)) (g.H.Shelf.given c.answered.new.shelf);
  read = search rules;
  write = search rules;
  completes = search rules;
  ends = λ asks sure sunk. memory_ends asks.task;
  makes = search rules;
  answers = search rules;
}

pub returns-in-Err-Failed : goal.returns-in-Err-Failed
returns-in-Err-Failed g c = record {
  headline = λ told. absurd (failure_tells_nothing told);
  truths = λ told. absurd (failure_tells_nothing told);
  words = search rules;
  none_fetched = search rules;
  fetched = search rules;
  once = search rules;
  long = failure_says_nothing (command_of (map string_bytes c.args.words.now)) (g.H.Shelf.given c.answered.new.shelf);
  read = search rules;
  write = search rules;
  completes = search rules;
  ends = λ asks sure sunk. absurd (sunk (search rules));
  makes = search rules;
  answers = search rules;
}

pub returns-in-Err-Memory : goal.returns-in-Err-Memory
returns-in-Err-Memory g c = record {
  headline = λ told. absurd (memory_tells_nothing told);
  truths = λ told. absurd (memory_tells_nothing told);
  words = search rules;
  none_fetched = search rules;
  fetched = search rules;
  once = search rules;
  long = memory_says_nothing (command_of (map string_bytes c.args.words.now)) (g.H.Shelf.given c.answered.new.shelf);
  read = search rules;
  write = search rules;
  completes = search rules;
  ends = λ asks sure sunk. memory_ends asks.task;
  makes = search rules;
  answers = search rules;
}
