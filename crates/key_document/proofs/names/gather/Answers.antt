use Rattle.std.proofs.Common.{◌≡◌, None, Some}
use Rattle.key_document.proofs.NamesLeft.{name_gathered, none_gathered, still_gathered}
use Rattle.key_document.proofs.names.gather.Goals as goal
use Rattle.key_document.proofs.Reaching.{some_none}

pub returns-then-names-lt-MANY : goal.returns-then-names-lt-MANY
returns-then-names-lt-MANY c = λ ns h e. none_gathered ns c.args.set.now c.args.names.now c.requires h e

pub names-init : goal.names-init
names-init c = record { gathered = λ ns h e. none_gathered ns c.args.set.now c.args.names.now c.requires h e }

pub returns-in_default-insert : goal.returns-in_default-insert
returns-in_default-insert c = λ ns h e. still_gathered ns c.names.set c.insert.new.self c.names.rest.now c.in_default-insert.ensures.err (c.names.invariant.gathered ns h e)

pub names-preserved : goal.names-preserved
names-preserved c = record { gathered = λ ns h e. name_gathered ns c.names.set c.insert.new.self c.names.rest.now c.in-Some.name c.in-Some.others.now c.in-Ok.ensures.updates (c.names.invariant.gathered ns h e) (λ more g. some_none (c.in-Some.ensures.over more g)) (λ name t r ms more e. let x = c.in-Some.ensures.next name t r ms more e in (x.0, x.2)) }
