use Rattle.text.proofs.OutputLaws.{show_start, show_end, show_on}
use Rattle.text.proofs.output.put_records.Goals as goal

pub loop-record-init : goal.loop-record-init
loop-record-init c = show_start _ _ _ _ _ _ (cc) (cc) (cc) c.requires

pub loop-record-preserved : goal.loop-record-preserved
loop-record-preserved c = let s = c.in-Some.ensures.steps in show_on _ _ _ _ _ _ _ _ c.loop-record.invariant c.in-Some.record.now _ _ _ s.1 s.0.1.0 s.0.1.1 s.0.0 _ _ c.put_record-at.ensures

pub returns : goal.returns
returns c = show_end _ _ _ _ _ _ _ _ c.loop-record.invariant (λ h. (c.in-None.ensures.steps h).1.0)
