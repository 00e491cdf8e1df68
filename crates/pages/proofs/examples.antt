pub mod IsolationExample
pub mod PagesExample
