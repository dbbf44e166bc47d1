use Rattle.std.proofs.Common.{◌≡◌, take, option_map, IfSome}
use Rattle.jsonb.specs.AstView.{ast_view, written_members}
use Rattle.jsonb.specs.Source.{source_members_view}
use Rattle.example_config.specs.Config.{key_of, setting_of, HasKeyEnd}
use Rattle.example_config.proofs.config.member_of.Given as goal

abbrev pub invariant-members : goal.invariant-members
invariant-members l = record {
  value : option_map (λ m. ast_view m.0.now) l.found ≡ setting_of l.fn.setting (written_members (take l.name-index l.members));
  ends : IfSome l.found (λ m. HasKeyEnd (source_members_view l.members) (key_of l.fn.setting) m.1);
}
