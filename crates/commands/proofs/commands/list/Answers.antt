use Rattle.std.proofs.Common.{sym}
use Rattle.codec.proofs.Boundaries.{decode_is}
use Rattle.codec.specs.Places.{set_from}
use Rattle.commands.proofs.CommandLaws.{told-listed}
use Rattle.commands.proofs.commands.list.Goals as goal

pub returns : goal.returns
returns c =
    let s = c.args.s.now in
    told-listed c.args.axes c.args.m s (set_from s 0) (decode_is c.args.axes s (sym c.in_default.ensures)) c.count.result c.count.ensures
    c.header-text.ensures
