use Rattle.std.proofs.Common.{Some, lit<}
use Rattle.std.proofs.lemmas.Str.Pattern.{strip_prefix_char}
use Rattle.cadence_environment.proofs.Authorities.{alone, bracketed}
use Rattle.cadence_environment.proofs.destination.read_authority.Goals as goal

pub returns-in-Some : goal.returns-in-Some
returns-in-Some c =
    let whole = strip_prefix_char 91 c.args.text.now (Some c.in-Some.inner) c.in-Some.ensures.cases (lit< tt) in
    bracketed c.args.text.now c.in-Some.inner.now c.in_ok-host.host.now c.in_ok-host.rest.now c.in_ok-read_url_port.field-0
    c.with_host.result whole c.in_ok-host.ensures.whole c.in_ok-read_url_port.ensures c.with_host.ensures.host c.with_host.ensures.same

pub returns-in-None : goal.returns-in-None
returns-in-None c =
    alone c.args.text.now c.with_host-in-None.result c.in-None.ensures.none c.with_host-in-None.ensures.host
    c.with_host-in-None.ensures.same
