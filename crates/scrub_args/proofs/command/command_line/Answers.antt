-- The commands are those of the definition.
use Rattle.std.proofs.Common.{refl}
use Rattle.std.proofs.lemmas.Result.{IfOk-weaker}
use Rattle.scrub_args.proofs.CommandLines.{one_more}
use Rattle.scrub_args.proofs.command.command_line.Goals as goal

pub returns : goal.returns
returns c =
    let one = one_more _ _ _ _ _ c.in_ok-subcommand.ensures c.in_ok-bare_program.ensures c.in_ok-summary_command.ensures refl in
    let two = one_more _ _ _ _ _ c.in_ok-subcommand-2.ensures one c.in_ok-command_without_sizes.ensures refl in
    let three = one_more _ _ _ _ _ c.in_ok-subcommand-3.ensures two c.in_ok-shard_command.ensures refl in
    let four = one_more _ _ _ _ _ c.in_ok-subcommand-4.ensures three c.in_ok-shards_command.ensures refl in
    let five = one_more _ _ _ _ _ c.in_ok-subcommand-5.ensures four c.in_ok-disk_command.ensures refl in
    let six = one_more _ _ _ _ _ c.in_ok-subcommand-6.ensures five c.in_ok-command_without_sizes-2.ensures refl in
    let seven = one_more _ _ _ _ _ c.in_ok-subcommand-7.ensures six c.in_ok-manifest_command.ensures refl in
    let eight = one_more _ _ _ _ _ c.in_ok-subcommand-8.ensures seven c.in_ok-disk_command-2.ensures refl in
    let nine = one_more _ _ _ _ _ c.in_ok-subcommand-9.ensures eight c.in_ok-reclaimable_command.ensures refl in
    let ten = one_more _ _ _ _ _ c.in_ok-subcommand-10.ensures nine c.in_ok-compare_command.ensures refl in
    let eleven = one_more _ _ _ _ _ c.in_ok-subcommand-11.ensures ten c.in_ok-superblocks_command.ensures refl in
    let twelve = one_more _ _ _ _ _ c.in_ok-subcommand-12.ensures eleven c.in_ok-sizes_command.ensures refl in
    let thirteen = one_more _ _ _ _ _ c.in_ok-subcommand-13.ensures twelve c.in_ok-items_command.ensures refl in
    IfOk-weaker c.subcommand-14.result _ _ (λ r added. one_more _ _ _ _ _ added thirteen c.demo_command.ensures refl) c.subcommand-14.ensures
