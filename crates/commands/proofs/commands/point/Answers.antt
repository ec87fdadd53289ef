use Rattle.std.proofs.Common.{◌∙◌, w32}
use Rattle.integers.specs.Mach.{result_is}
use Rattle.commands.proofs.CommandLaws.{eight}
use Rattle.commands.proofs.commands.point.Goals as goal

pub returns : goal.returns
returns c =
    eight c.args.s.now c.args.p (result_is w32 _ c.i32_at.type_inv ∙ c.i32_at.ensures) (result_is w32 _ c.i32_at-2.type_inv ∙ c.i32_at-2.ensures)
    (result_is w32 _ c.i32_at-3.type_inv ∙ c.i32_at-3.ensures) (result_is w32 _ c.i32_at-4.type_inv ∙ c.i32_at-4.ensures)
    (result_is w32 _ c.i32_at-5.type_inv ∙ c.i32_at-5.ensures) (result_is w32 _ c.i32_at-6.type_inv ∙ c.i32_at-6.ensures)
    (result_is w32 _ c.i32_at-7.type_inv ∙ c.i32_at-7.ensures) (result_is w32 _ c.i32_at-8.type_inv ∙ c.i32_at-8.ensures)
