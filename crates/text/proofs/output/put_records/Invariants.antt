use Rattle.std.specs.Slice.Iter.{chunks_exact_size, chunks_exact_rest}
use Rattle.std.specs.Iterator.Adapters.{take_source, take_count}
use Rattle.text.proofs.OutputLaws.{Showing}
use Rattle.text.proofs.output.put_records.Given as goal

abbrev pub invariant-loop-record : goal.invariant-loop-record
invariant-loop-record l = let it = l.record-iterator in Showing l.w l.k l.initial.out l.out l.at (chunks_exact_size (take_source it)) (chunks_exact_rest (take_source it)) (take_count it)
