use Rattle.std.proofs.Common.{◌≡◌, ◌-◌, refl, ap}
use Rattle.lp_defs.specs.Path.{Done, Open, path}
use Rattle.lp_defs.specs.Solution.{second_end}
use Rattle.simplex_core.proofs.Solves.{reached_done, reached_open, differ_done, differ_open, apart_open, renamed}
use Rattle.simplex_core.proofs.solver.finish.Goals as goal

pub optimal-requires : goal.optimal-requires
optimal-requires c =
    let e : path c.args.program.now.columns (c.args.pivots - c.args.made) c.args.made c.args.tableau ≡ Done c.in-Done._last c.follow.new.self = reached_done c.args.program.now.columns c.columns.result (c.args.pivots - c.args.made) c.args.made c.in-Done._last c.args.tableau c.follow.new.self c.in_ok-_last.field-0 c.columns.ensures.same c.in-Done.is c.in_ok-_last.ensures.reached in
    differ_done c.args.program.now (c.args.pivots - c.args.made) c.args.made c.in-Done._last c.args.tableau c.follow.new.self c.follow.new.self.rows c.requires.ready e refl

pub returns-in-Done : goal.returns-in-Done
returns-in-Done c =
    let e : path c.args.program.now.columns (c.args.pivots - c.args.made) c.args.made c.args.tableau ≡ Done c.in-Done._last c.follow.new.self = reached_done c.args.program.now.columns c.columns.result (c.args.pivots - c.args.made) c.args.made c.in-Done._last c.args.tableau c.follow.new.self c.in_ok-_last.field-0 c.columns.ensures.same c.in-Done.is c.in_ok-_last.ensures.reached in
    renamed (second_end c.args.program.now (Done c.in-Done._last c.follow.new.self)) (second_end c.args.program.now (path c.args.program.now.columns (c.args.pivots - c.args.made) c.args.made c.args.tableau)) c.optimal.result (ap (second_end c.args.program.now) e) c.optimal.ensures

pub unbounded-requires : goal.unbounded-requires
unbounded-requires c =
    let e : path c.args.program.now.columns (c.args.pivots - c.args.made) c.args.made c.args.tableau ≡ Open c.in-Open.column c.follow.new.self = reached_open c.args.program.now.columns c.columns.result (c.args.pivots - c.args.made) c.args.made c.in-Open.column c.args.tableau c.follow.new.self c.in_ok-_last.field-0 c.columns.ensures.same c.in-Open.is c.in_ok-_last.ensures.reached in
    record {
      differ = differ_open c.args.program.now (c.args.pivots - c.args.made) c.args.made c.in-Open.column c.args.tableau c.follow.new.self c.follow.new.self.rows c.requires.ready e refl;
      apart = apart_open c.args.program.now (c.args.pivots - c.args.made) c.args.made c.in-Open.column c.args.tableau c.follow.new.self c.follow.new.self.rows c.requires.ready e refl;
    }

pub returns-in-Open : goal.returns-in-Open
returns-in-Open c =
    let e : path c.args.program.now.columns (c.args.pivots - c.args.made) c.args.made c.args.tableau ≡ Open c.in-Open.column c.follow.new.self = reached_open c.args.program.now.columns c.columns.result (c.args.pivots - c.args.made) c.args.made c.in-Open.column c.args.tableau c.follow.new.self c.in_ok-_last.field-0 c.columns.ensures.same c.in-Open.is c.in_ok-_last.ensures.reached in
    renamed (second_end c.args.program.now (Open c.in-Open.column c.follow.new.self)) (second_end c.args.program.now (path c.args.program.now.columns (c.args.pivots - c.args.made) c.args.made c.args.tableau)) c.unbounded.result (ap (second_end c.args.program.now) e) c.unbounded.ensures
