use Rattle.std.proofs.Common.{sym, ap, ◌∙◌, refl, arith}
use Rattle.model.specs.Refused.{number_of}
use Rattle.model.proofs.Refused.{number-some}
use Rattle.codec.specs.Bytes.{gives}
use Rattle.codec.specs.Places.{set_from}
use Rattle.codec.proofs.Boundaries.{decode_is}
use Rattle.listing.proofs.Writing.{wrote-length}
use Rattle.commands.proofs.Answers.{load-refused, load-long, load_gives, loaded-table, result-same}
use Rattle.commands.proofs.memory.load.Goals as goal

pub returns-in-Err : goal.returns-in-Err
returns-in-Err c =
    let r = c.in-Err.r in
    result-same c.requires (sym (load-refused c.args.n c.args.set.now (number_of r) c.in-Err.ensures (number-some r))) c.refuse.ensures

pub returns-then-set-gt-SET_BYTES : goal.returns-then-set-gt-SET_BYTES
returns-then-set-gt-SET_BYTES c =
    let n = c.args.n in let s = c.args.set.now in let e = c.in_default.ensures in
    result-same c.requires (sym (load-long n s 0 e (set_from s 0) (decode_is n s (sym e)) c.if-set-gt-SET_BYTES.true)) c.refuse-then-set-gt-SET_BYTES.ensures

pub returns : goal.returns
returns c =
    let n = c.args.n in let s = c.args.set.now in let e = c.in_default.ensures in
    let w = c.word-end.ensures.wrote in let l = wrote-length w in
    result-same refl (sym (load_gives n s 0 e (set_from s 0) (decode_is n s (sym e)) (omega arith)))
    (record {
      answer = ap gives (let i = w.end_is in omega arith);
      bytes = c.clear.ensures ∙ loaded-table s c.args.res.now c.word-end.new.out c.word-end.result c.requires (l ∙ c.requires) w;
    })
