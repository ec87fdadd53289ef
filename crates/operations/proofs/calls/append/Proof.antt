use Rattle.operations.proofs.Answering.{union-over, union-made}
use borrow.Author.Rules.{rules}
use Rattle.operations.proofs.calls.append.Statement.{statement}
use Rattle.operations.proofs.calls.append.Tie as tie

returns : tie.Need-returns-then-n-gt-BASIC_SETS
returns c =
    let st = c.before.before.before.before in
    union-over st.args.a.now st.args.b.now st.requires.0 st.args.n st.requires.1 st.args.out.now st.args.out.now 0 _ c.if-n-gt-BASIC_SETS.true

copy-bytes-requires : tie.Need-copy_bytes-m-requires
copy-bytes-requires c κs = search rules

copy-bytes-requires-2 : tie.Need-copy_bytes-e-requires
copy-bytes-requires-2 c κs = search rules

same_length : tie.Need-shape_of-out
same_length c = search rules

returns-2 : tie.Need-returns
returns-2 c =
    let w = c.before.before in let v = w.before.before.before.before in let e = v.before.before in let st = e.before.before.before.before in
    union-made st.args.a.now st.args.b.now st.requires.0 st.args.n st.requires.1 (λ i. (e.before.before.before.shared_slice_known-1.given i).fits) (λ i. (e.before.before.shared_slice_known-2-1.given i).fits)
    st.args.out.now _ w.copy_bytes-e.new.out _ w.copy_bytes-e.result _ e.if-n-gt-BASIC_SETS.false v.copy_bytes-m.ensures w.copy_bytes-e.ensures

pub append_spec : {M : Type 1} → statement M
append_spec = tie.close (tie.spec returns copy-bytes-requires copy-bytes-requires-2 same_length returns-2)
