-- How the bytes and the numbers of a journal go together.
use Rattle.std.specs.Prelude.{◌≡◌, ℕ, Bool, false, List, length, All}
use Rattle.lsm_mapped.specs.Records.{IsWhole, front, last, records_of, text_of, writes_in}

-- A text is that of records, the last of which begins at byte `head` and writes `count` sectors from `first` on.
pub record Laid (text : List ℕ) (head first count : ℕ) (wrote : Bool) : Type 0 where
  pub text_is : text_of (records_of text) ≡ text
  pub whole : All IsWhole (records_of text)
  pub head_is : head ≡ length (text_of (front (records_of text)))
  pub first_is : first ≡ (last (records_of text)).first
  pub count_is : count ≡ length (last (records_of text)).sectors
  pub unwritten : wrote ≡ false → writes_in (records_of text) ≡ 0
