-- The style of a text, as data.
use Rattle.basic_toml_layout.specs.Document as d
use Rattle.basic_toml_layout.specs.Pretty as p
use Rattle.basic_toml_layout.specs.declared.data.style.Style.{Style}
use Rattle.basic_toml_layout.specs.declared.data.style.Style.TheVariants.{Plain, Pretty}

abbrev pub style_of : Style → d.Style
style_of Plain = d.plain
style_of Pretty = p.pretty
