use Rattle.example_config.proofs.Settings.{settings, only_settings, no_settings}
use Rattle.example_config.proofs.config.read_config.Goals as goal

pub returns-clause-config : goal.returns-clause-config
returns-clause-config c =
    let ok = rw c.deref.ensures.value at c.config_of.ensures.ok in
    settings c.args.text.now c.in-Ok.document c.in-Object.members c.config_of.result c.in-Object.is c.in-Ok.ensures.parses.document ok

pub returns-clause-only : goal.returns-clause-only
returns-clause-only c =
    let ok = rw c.deref.ensures.value at c.config_of.ensures.ok in
    only_settings c.args.text.now c.in-Ok.document c.in-Object.members c.config_of.result c.in-Object.is c.in-Ok.ensures.parses.only ok

pub returns-clause-rejected : goal.returns-clause-rejected
returns-clause-rejected c =
    let rejected = rw c.deref.ensures.value at c.config_of.ensures.rejected in
    no_settings c.args.text.now c.in-Ok.document c.in-Object.members c.config_of.result c.in-Object.is c.in-Ok.ensures.parses.document c.in-Ok.ensures.source rejected
