use Rattle.std.proofs.Common.{◌∙◌, ap, map, option_map}
use Rattle.std.specs.String.{string_bytes}
use Rattle.ntb_top.specs.Commands.{command_of}
use Rattle.ntb_top.specs.declared.command.Command.TheVariants.{Plain}
use Rattle.ntb_top.proofs.RunOutcomes.{answered_as, plain_stays}
use Rattle.ntb_top.proofs.plain.plain_program.Goals as goal

pub returns : goal.returns
returns g c =
    let words = map string_bytes c.args.words.now in
    answered_as (option_map Plain c.plain_of.result) (command_of words) _ _ _ (ap (option_map Plain) c.plain_of.ensures.words ∙ plain_stays (command_of words) c.requires) c.run_plain.ensures
