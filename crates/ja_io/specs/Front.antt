-- What a read of a file gives.
use Rattle.std.specs.Prelude.{◌≡◌, ℕ, ◌<◌, ◌↔◌, List, take, length, IsTrue}
use Rattle.ja_io.specs.declared.folder.Piece.{Piece}

-- the piece is the first `most` bytes of a content, and tells whether the content has more
pub record IsFront (content : List ℕ) (most : ℕ) (piece : Piece) : Type 0 where
  pub bytes : piece.bytes ≡ take most content
  pub longer : IsTrue piece.longer ↔ (most < length content)
