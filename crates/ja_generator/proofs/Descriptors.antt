-- The descriptors of made methods are descriptors.
use Rattle.std.proofs.Common.{ℕ, ◌<◌, inl, inr, [], ◌∷◌, Some, None, codes, refl, arith, lit<, lit≤}
use Rattle.ja_base.specs.declared.java_type.JavaType.{JavaType}
use Rattle.ja_base.specs.declared.java_type.Kind.TheVariants.{R}
use Rattle.ja_base.specs.Descriptor.{IsPartByte, IsClassName, IsField}
use Rattle.ja_bytes.specs.DescriptorText.{IsMethodText}
use Rattle.ja_generator.specs.Made.{text_to_text}

letter : (b : ℕ) → 91 < b → b < 256 → IsPartByte b
letter b above below = (below, λ e. omega arith, λ e. omega arith, λ e. omega arith, λ e. omega arith)

big_letter : IsPartByte 83
big_letter = (lit< tt, λ e. omega arith, λ e. omega arith, λ e. omega arith, λ e. omega arith)

-- j a v a / l a n g / S t r i n g
string_name : IsClassName (codes "java/lang/String")
string_name = (
  letter 106 (lit< tt) (lit< tt),
  inr (letter 97 (lit< tt) (lit< tt), inr (letter 118 (lit< tt) (lit< tt), inr (letter 97 (lit< tt) (lit< tt), inl (refl, inner)))),
)
  where
    class : IsClassName (codes "String")
    class = (big_letter, inr (letter 116 (lit< tt) (lit< tt), inr (letter 114 (lit< tt) (lit< tt), inr (letter 105 (lit< tt) (lit< tt), inr (letter 110 (lit< tt) (lit< tt), inr (letter 103 (lit< tt) (lit< tt)))))))

    inner : IsClassName (codes "lang/String")
    inner = (letter 108 (lit< tt) (lit< tt), inr (letter 97 (lit< tt) (lit< tt), inr (letter 110 (lit< tt) (lit< tt), inr (letter 103 (lit< tt) (lit< tt), inl (refl, class)))))

string : JavaType
string = record { kind = R; name = codes "java/lang/String" }

strings : JavaType
strings = record { kind = R; name = codes "[Ljava/lang/String;" }

string-field : IsField (codes "Ljava/lang/String;") string
unfolding string
string-field = inl (string_name, refl)

strings-field : IsField (codes "[Ljava/lang/String;") strings
unfolding strings
strings-field = inr (refl, refl, record { dims = 1; element = codes "Ljava/lang/String;"; kind = R; name = codes "java/lang/String"; some = lit≤ tt; most = lit≤ tt; plain = (string_name, refl); parts = refl })

pub text_to_text-method : IsMethodText text_to_text
unfolding string
text_to_text-method = record {
  params = string ∷ [];
  result = Some string;
  method = record { inner = codes "Ljava/lang/String;"; last = codes "Ljava/lang/String;"; parts = refl; fields = (codes "Ljava/lang/String;", [], refl, string-field, refl); most = lit≤ tt; ends = string-field };
}

pub to_text-method : IsMethodText (codes "()Ljava/lang/String;")
to_text-method = record {
  params = [];
  result = Some string;
  method = record { inner = []; last = codes "Ljava/lang/String;"; parts = refl; fields = refl; most = lit≤ tt; ends = string-field };
}

pub of_text-method : IsMethodText (codes "(Ljava/lang/String;)V")
unfolding string
of_text-method = record {
  params = string ∷ [];
  result = None;
  method = record { inner = codes "Ljava/lang/String;"; last = codes "V"; parts = refl; fields = (codes "Ljava/lang/String;", [], refl, string-field, refl); most = lit≤ tt; ends = refl };
}

pub of_texts-method : IsMethodText (codes "([Ljava/lang/String;)V")
unfolding strings
of_texts-method = record {
  params = strings ∷ [];
  result = None;
  method = record { inner = codes "[Ljava/lang/String;"; last = codes "V"; parts = refl; fields = (codes "[Ljava/lang/String;", [], refl, strings-field, refl); most = lit≤ tt; ends = refl };
}
