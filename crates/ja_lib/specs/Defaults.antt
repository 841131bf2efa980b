-- The table that stands where a folder has none of its own.
use Rattle.std.specs.Prelude.{ℕ, true, false, List, [], ◌∷◌, ◌++◌, Option, Some, None, codes, map}
use Rattle.ja_ir.specs.declared.row.LibRow.{LibRow}
use Rattle.ja_ir.specs.declared.row.RowFlow.{RowFlow}
use Rattle.ja_ir.specs.declared.row.RowFlow.TheVariants.{Always, Never, Args}
use Rattle.ja_ir.specs.declared.row.RowEffect.{RowEffect}
use Rattle.ja_ir.specs.declared.row.RowEffect.TheVariants.{Quiet, Absorb, Blend}
use Rattle.ja_ir.specs.declared.row.RowResult.{RowResult}
use Rattle.ja_ir.specs.declared.row.RowResult.TheVariants.{Fresh, Argument, Member, Any}
use Rattle.ja_lib.specs.declared.row.TableRow.{TableRow}
use Rattle.ja_lib.specs.declared.entry.EntryRow.{EntryRow}
use Rattle.ja_lib.specs.Content.{Content}
use Rattle.ja_lib.specs.Rows.{all_methods}

-- a row for one method, of any descriptor or of the given one
abbrev pub row_of : (classes : List (List ℕ)) (meaning : LibRow) (desc : Option (List ℕ)) (method : List ℕ) → TableRow
row_of classes meaning desc method = record { classes = classes; method = method; desc = desc; meaning = meaning }

-- a row for each method, of any descriptor
abbrev pub rows_of : (classes : List (List ℕ)) (meaning : LibRow) (methods : List (List ℕ)) → List TableRow
rows_of classes meaning methods = map (row_of classes meaning None) methods

-- what a call without sinks does; there is one category of marks
abbrev pub means : RowFlow → RowEffect → RowResult → LibRow
means flow effect result = record { flow = flow; effect = effect; result = result; sinks = []; marks = true ∷ []; category = 0 }

-- what a call with one sink does
abbrev pub sinks_at : ℕ → RowFlow → RowEffect → RowResult → LibRow
sinks_at position flow effect result = record { flow = flow; effect = effect; result = result; sinks = position ∷ []; marks = true ∷ []; category = 0 }

-- the classes of the default table
abbrev pub taint : List (List ℕ)
taint = codes "demo/Taint" ∷ []

abbrev pub requests : List (List ℕ)
requests = codes "javax/servlet/ServletRequest" ∷ codes "javax/servlet/http/HttpServletRequest" ∷ []

abbrev pub responses : List (List ℕ)
responses = codes "javax/servlet/ServletResponse" ∷ codes "javax/servlet/http/HttpServletResponse" ∷ []

abbrev pub writers : List (List ℕ)
writers = codes "java/io/PrintWriter" ∷ []

abbrev pub statements : List (List ℕ)
statements = codes "java/sql/Statement" ∷ []

abbrev pub strings : List (List ℕ)
strings = codes "java/lang/String" ∷ []

abbrev pub builders : List (List ℕ)
builders = codes "java/lang/StringBuilder" ∷ codes "java/lang/StringBuffer" ∷ []

abbrev pub objects : List (List ℕ)
objects = codes "java/lang/Object" ∷ []

-- the rows of the classes that mark, copy and check values in examples
abbrev pub taint_rows : List TableRow
taint_rows =
    rows_of taint (means Always Quiet Fresh) (codes "source" ∷ [])
    ++ rows_of taint (sinks_at 0 Never Quiet Fresh) (codes "sink" ∷ [])
    ++ rows_of taint (means Args Quiet Fresh) (codes "copy" ∷ [])

-- the rows of requests to servlets and of their responses
abbrev pub servlet_rows : List TableRow
servlet_rows =
    rows_of requests (means Always Quiet Fresh) (codes "getParameter" ∷ codes "getParameterValues" ∷ codes "getHeader" ∷ codes "getQueryString" ∷ [])
    ++ rows_of responses (means Args Quiet Member) (codes "getWriter" ∷ [])

-- the rows of pages and of databases, the places where injections do harm
abbrev pub sink_rows : List TableRow
sink_rows =
    rows_of writers (sinks_at 1 Args Absorb Fresh) (codes "print" ∷ codes "println" ∷ codes "write" ∷ [])
    ++ rows_of statements (sinks_at 1 Args Quiet Fresh) (codes "executeQuery" ∷ codes "executeUpdate" ∷ codes "execute" ∷ [])

-- the rows of strings
abbrev pub string_rows : List TableRow
string_rows =
    rows_of strings (means Args Absorb Fresh) (codes "<init>" ∷ [])
    ++ rows_of strings (means Args Blend Fresh) (codes "getChars" ∷ codes "getBytes" ∷ [])
    ++ rows_of strings (means Args Quiet Fresh) (all_methods ∷ [])

-- the rows of string builders
abbrev pub builder_rows : List TableRow
builder_rows =
    rows_of builders (means Args Absorb Fresh) (codes "<init>" ∷ codes "setCharAt" ∷ [])
    ++ rows_of builders (means Args Absorb Argument) (codes "append" ∷ codes "insert" ∷ codes "replace" ∷ [])
    ++ rows_of builders (means Never Quiet Argument) (codes "delete" ∷ codes "deleteCharAt" ∷ codes "reverse" ∷ [])
    ++ rows_of builders (means Args Blend Fresh) (codes "getChars" ∷ [])
    ++ rows_of builders (means Args Quiet Fresh) (all_methods ∷ [])

-- the rows of every object
abbrev pub object_rows : List TableRow
object_rows =
    row_of objects (means Never Quiet Fresh) (Some (codes "()V")) (codes "<init>")
    ∷ (rows_of objects (means Args Quiet Fresh) (codes "equals" ∷ codes "hashCode" ∷ codes "toString" ∷ codes "getClass" ∷ [])
    ++ rows_of objects (means Args Quiet Any) (codes "clone" ∷ []))

-- the rows of the default table
abbrev pub default_rows : List TableRow
default_rows = taint_rows ++ servlet_rows ++ sink_rows ++ string_rows ++ builder_rows ++ object_rows

-- a method of each servlet, which the environment calls with no tainted argument
abbrev pub servlet_entry : (desc method : List ℕ) → EntryRow
servlet_entry desc method = record { class = codes "javax/servlet/http/HttpServlet"; is_static = false; method = method; desc = desc; marked = []; marks = true ∷ [] }

-- the method with which a program begins, in any class
abbrev pub main_entry : EntryRow
main_entry = record { class = codes "*"; is_static = true; method = codes "main"; desc = codes "([Ljava/lang/String;)V"; marked = []; marks = true ∷ [] }

-- the entries of the default table
abbrev pub default_entries : List EntryRow
default_entries =
    map (servlet_entry (codes "(Ljavax/servlet/http/HttpServletRequest;Ljavax/servlet/http/HttpServletResponse;)V")) (codes "doGet" ∷ codes "doPost" ∷ codes "service" ∷ [])
    ++ servlet_entry (codes "(Ljavax/servlet/ServletRequest;Ljavax/servlet/ServletResponse;)V") (codes "service")
    ∷ main_entry
    ∷ []

-- the table that stands where a folder has none of its own
abbrev pub default_content : Content
default_content = record { categories = []; rows = default_rows; entries = default_entries }
