use Rattle.std.proofs.Common.{◌≡◌, true, is_ok, Result, Ok, Err, OnOk, sym, ◌∙◌}
use Rattle.jsonb_value.specs.View.{view}
use Rattle.text_pretty.proofs.ReadsBack.{range_represents}
use Rattle.text_pretty.proofs.write_text_indented.Goals as goal

done : {T E P : Type 0} (r : Result T E) → is_ok r ≡ true → OnOk r P → P
done (Ok x) e p = p
done (Err x) e p = cc

pub returns-then-is_ok-clause-reads_back : goal.returns-then-is_ok-clause-reads_back
returns-then-is_ok-clause-reads_back c = λ mode range.
    range_represents mode c.args.indent (view c.args.value.now) (done c.append.result (sym c.is_ok.ensures.value ∙ c.if-is_ok.true) c.append.ensures.proper) range
