use Rattle.smps_cli.specs.Runs.{shelf_state, sink_state}
use Rattle.tidzgheba.proofs.WantLemmas.{wants_memory}
use Rattle.tidzgheba.proofs.ended.Goals as goal

pub returns-in-Err-words_of : goal.returns-in-Err-words_of
returns-in-Err-words_of g c = wants_memory (g.H.Shelf.content c.args.shelf.now)
    (shelf_state (g.H.Shelf.fetches c.args.shelf.now) (g.H.Shelf.faults c.args.shelf.now) (g.H.Shelf.given c.args.shelf.now))
    (sink_state (g.K.Sink.written c.args.sink.now) (g.K.Sink.faults c.args.sink.now) (g.K.Sink.taken c.args.sink.now))
    c.args.arguments c.in-Ok.arguments c.unread.result c.in-Ok.is c.unread.ensures
