-- What `clap` finds in the arguments by the program's command line, or why it refuses them.
use Rattle.std.proofs.Common.{◌≡◌, [], rules, subst, sym, true}
use Rattle.std.proofs.lemmas.Result.{err_from_is_err_and}
use Rattle.clap.specs.declared.error.kind.ErrorKind.TheVariants.{DisplayVersion}
use Rattle.clap.specs.Words.{App, FailsBy, HasMatchesOf, fault_of, is_simple_and_free, kind_of}
use Rattle.scrub_args.specs.steps.Parsed.{IsWholeParse}
use Rattle.scrub_args.specs.Args.{IsAskedBy, texts}
use Rattle.scrub_args.proofs.CommandLines.{simple, simple_alone}
use Rattle.scrub_args.proofs.Whole.{whole}
use Rattle.scrub_args.proofs.ArgsFound.{asks_version, comes_to, rows_fault}
use Rattle.scrub_args.proofs.args.read_args.Goals as goal

pub request_of-requires : goal.request_of-requires
request_of-requires c =
    let args = texts c.args.args.now in
    let app_is = c.in_ok-command_line.ensures in
    let clean = subst (λ (a : App). is_simple_and_free a ≡ true → fault_of a args ≡ []) app_is c.in-Ok.ensures.kinds simple in
    let found = subst (λ (a : App). HasMatchesOf a args c.in-Ok.matches) app_is c.in-Ok.ensures.ok.2 simple_alone in
    subst IsWholeParse (sym found.1) (whole args clean)

pub returns-in-Err : goal.returns-in-Err
returns-in-Err c =
    let args = texts c.args.args.now in
    let app_is = c.in_ok-command_line.ensures in
    let fails =
    subst (λ (a : App). is_simple_and_free a ≡ true → FailsBy (fault_of a args) c.try_get_matches_from_mut.result) app_is
    c.try_get_matches_from_mut.ensures.kinds simple in
    let failed = rw c.in-Err.is at fails in
    let version : kind_of c.in-Err.error ≡ DisplayVersion = search rules in
    asks_version args (kind_of c.in-Err.error) failed version

pub returns-in-Err-2 : goal.returns-in-Err-2
returns-in-Err-2 c =
    let args = texts c.args.args.now in
    let app_is = c.in_ok-command_line.ensures in
    let fails =
    subst (λ (a : App). is_simple_and_free a ≡ true → FailsBy (fault_of a args) c.try_get_matches_from_mut.result) app_is
    c.try_get_matches_from_mut.ensures.kinds simple in
    let failed = rw c.in-Err.is at fails in
    comes_to args (kind_of c.in-Err.error) c.of.result failed c.of.ensures

pub returns-in_err-request_of : goal.returns-in_err-request_of
returns-in_err-request_of c =
    let args = texts c.args.args.now in
    let app_is = c.in_ok-command_line.ensures in
    let clean = subst (λ (a : App). is_simple_and_free a ≡ true → fault_of a args ≡ []) app_is c.in-Ok.ensures.kinds simple in
    let found = subst (λ (a : App). HasMatchesOf a args c.in-Ok.matches) app_is c.in-Ok.ensures.ok.2 simple_alone in
    let fault = c.in_err-request_of in
    let converted = c.from_residual-in_err-request_of in
    let p = err_from_is_err_and converted.result converted.ensures.1 in
    rw (p.1, p.2) (rows_fault args _ fault.field-0.0 clean found.1 fault.ensures)

pub returns : goal.returns
returns c =
    let args = texts c.args.args.now in
    let app_is = c.in_ok-command_line.ensures in
    let clean = subst (λ (a : App). is_simple_and_free a ≡ true → fault_of a args ≡ []) app_is c.in-Ok.ensures.kinds simple in
    let found = subst (λ (a : App). HasMatchesOf a args c.in-Ok.matches) app_is c.in-Ok.ensures.ok.2 simple_alone in
    (clean, subst (λ command. IsAskedBy command c.in_ok-request_of.field-0) found.1 c.in_ok-request_of.ensures)
