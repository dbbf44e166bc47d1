-- What is written: a buffer, and behind it a part of the text.
use Rattle.std.specs.Prelude.{ℕ, List, ◌++◌, slice_range}
use Rattle.text_write.specs.declared.written.Written.{Written}

-- the buffer, and the part of the text behind it
abbrev pub bytes_of : Written → List ℕ
bytes_of w = w.out.items ++ slice_range w.text.now w.from w.end
